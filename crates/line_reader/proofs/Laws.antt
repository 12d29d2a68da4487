-- Laws, for the proofs that cite them. Nothing here has to be believed.
pub mod Lines
