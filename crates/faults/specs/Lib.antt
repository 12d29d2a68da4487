-- Definitions that contracts cite: elements in lent words, a noise line by value, a noise line made ready for its draws.
pub mod Elements
pub mod Line
pub mod Prepared
-- Laws of these definitions.
pub mod Laws
