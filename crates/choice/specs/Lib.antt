-- Definitions that contracts cite: what a choice says.
pub mod Choice
-- Laws of these definitions.
pub mod Laws
