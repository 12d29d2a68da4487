-- What is proved of these definitions, for a reader.
-- Laws of these definitions.
pub mod Theorems
pub mod Laws
