-- What a reader wants to know of them.
-- Laws of these definitions.
pub mod Theorems
pub mod Laws
