-- Laws, for the proofs that cite them. Nothing here has to be believed.
-- The header's line, and a job's text as it is put.
pub mod Jobs
-- The whole reply of the call.
pub mod Replies
