-- Laws, for the proofs that cite them. Nothing here has to be believed.
-- A controlled Pauli and an element line that are known to be of an accepted job.
pub mod Lists
