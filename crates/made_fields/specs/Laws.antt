-- Laws, for the proofs that cite them. Nothing here has to be believed.
-- Choices, number by number.
pub mod Lists
pub mod Made
-- Fields of a line.
pub mod Fields
