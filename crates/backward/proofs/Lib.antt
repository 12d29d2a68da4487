-- What is proved of these definitions, for a reader.
pub mod Theorems
pub mod CallTheorems
pub mod SizeTheorems
pub mod ShotTheorems
pub mod TotalTheorems
-- Laws of these definitions.
pub mod Laws
