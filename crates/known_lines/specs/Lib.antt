-- Definitions that contracts cite: the two lists of a Pauli at a place of a line.
pub mod Lists
-- Laws of these definitions.
pub mod Laws
