-- Laws, for the proofs that cite them. Nothing here has to be believed.
-- The text of one instruction, and the place behind it.
pub mod Instruction
-- A pass over a job, from instruction to instruction.
pub mod Pass
-- The whole reply of settling, and where it leaves the main list.
pub mod Reply
