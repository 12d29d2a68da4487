-- Laws, for the proofs that cite them. Nothing here has to be believed.
pub mod Elements
pub mod Line
pub mod Gather
pub mod Prepared
pub mod Drawn
