-- Laws of these definitions.
pub mod Theorems
pub mod Laws
