-- Laws, for the proofs that cite them. Nothing here has to be believed.
-- The context after a line that passed.
pub mod Contexts
-- A job line by line.
pub mod Job
-- A pass over a job's lines.
pub mod Passing
