-- Laws, for the proofs that cite them. Nothing here has to be believed.
pub mod Words
pub mod Linear
pub mod Span
pub mod Jump
pub mod Block
