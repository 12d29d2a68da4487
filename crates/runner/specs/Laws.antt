-- Laws, for the proofs that cite them. Nothing here has to be believed.
-- The reply, and the words beyond those that are needed.
pub mod Replies
-- A job that passed its tests.
pub mod Passed
