-- Laws, for the proofs that cite them. Nothing here has to be believed.
-- Sums of shares, and marks within them.
pub mod Sums
-- The parts of the list by places.
pub mod Parts
-- The number that refuses a share, test by test.
pub mod Number
-- Calls with a share: the words available and the marks that they leave, by what this crate's functions give.
pub mod Calls
