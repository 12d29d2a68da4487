-- Laws, for the proofs that cite them. Nothing here has to be believed.
-- Lines that are passed over.
pub mod Passed
-- Gate lines.
pub mod Gates
-- Line after line.
pub mod Going
-- The tests of the call, and its reply.
pub mod Answers
