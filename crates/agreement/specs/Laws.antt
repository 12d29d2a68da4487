-- Laws, for the proofs that cite them. Nothing here has to be believed.
-- A count modulo 2.
pub mod Parity
-- What is said, by the answers of the calls.
pub mod Cases
-- The replies of the calls, one after the other.
pub mod Replies
