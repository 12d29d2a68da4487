-- Laws, for the proofs that cite them. Nothing here has to be believed.
-- The tests on lists, a list or a member at a time.
pub mod Slots
-- Floats that passed their tests.
pub mod Floats
-- The pairs of a Clifford table's rows.
pub mod Pairs
-- The lowest number, test by test.
pub mod Lowest
-- How often two lists meet, modulo 2.
pub mod Overlap
