-- Laws, for the proofs that cite them: execution and settling; which words are read, which suffice and where they are spent; weights, faults, u and
-- the elements; the lines that stand for noise; the settled text as a job; a run up to an instruction. Nothing here has to be believed.
pub mod Tests
pub mod Settling
pub mod Words
pub mod Left
pub mod Enough
pub mod Spent
pub mod Weights
pub mod Places
pub mod Faults
pub mod Unit
pub mod Elements
pub mod Depolarizing
pub mod Within
pub mod SettledText
pub mod Before
