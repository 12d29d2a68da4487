-- Definitions that contracts cite: the steps of the walk.
pub mod Steps
-- Laws of these definitions.
pub mod Laws
