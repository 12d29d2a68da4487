-- Laws, for the proofs that cite them: one block, all blocks, the replies, and the matrix turned twice. Nothing here has to be believed.
pub mod Block
pub mod Done
pub mod Reply
pub mod Twice
