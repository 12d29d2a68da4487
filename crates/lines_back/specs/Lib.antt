-- Definitions that contracts cite.
pub mod Packed
pub mod Full
pub mod Back
-- Laws of these definitions.
pub mod Laws
