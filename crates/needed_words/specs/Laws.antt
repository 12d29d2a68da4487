-- Laws, for the proofs that cite them. Nothing here has to be believed.
-- From instruction to instruction, to the end.
pub mod Going
-- Bits past the last shot.
pub mod Padding
-- From the states of shots to the words of the reply.
pub mod Replies
-- A run over exactly the words that it needs.
pub mod Needed
