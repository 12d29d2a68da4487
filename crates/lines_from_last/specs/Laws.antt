-- Laws, for the proofs that cite them. Nothing here has to be believed.
-- Where lines start, from the last to the first.
pub mod Starts
-- What is known of each line of an accepted job.
pub mod Known
-- Line after line.
pub mod Left
