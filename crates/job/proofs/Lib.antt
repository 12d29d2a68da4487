-- Laws of these definitions.
-- What a reader wants to know of the tests.
pub mod Laws
pub mod Theorems
