-- Laws, for the proofs that cite them. Nothing here has to be believed.
pub mod Words
pub mod Condition
pub mod Position
