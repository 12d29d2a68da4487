-- Laws, for the proofs that cite them: a round, and every step-th word of a list. Nothing here has to be believed.
pub mod Pair
pub mod Cross
pub mod Round
pub mod Strided
