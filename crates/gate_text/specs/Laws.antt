-- Laws, for the proofs that cite them. Nothing here has to be believed.
-- A number that is known to stand at a place, by its digits.
pub mod Digits
-- The first members of a list that is known to stand at a place.
pub mod Operands
-- What stands where in a line with the form of a gate line.
pub mod Gate
