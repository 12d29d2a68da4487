-- Laws, for the proofs that cite them. Nothing here has to be believed.
-- Words that hold the states of shots.
pub mod Holds
-- The elements of d=2 on rows.
pub mod Depolarizing
-- The elements of a distribution in lent words.
pub mod Elements
-- The faults of a line, one after the other.
pub mod Faults
-- A noise instruction.
pub mod Noise
-- One instruction.
pub mod Steps
