-- Definitions that contracts cite.
pub mod Rows
-- Laws of these definitions.
pub mod Laws
