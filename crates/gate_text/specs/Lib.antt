-- Definitions that contracts cite.
pub mod Gate
-- Laws of these definitions.
pub mod Laws
