-- Laws, for the proofs that cite them: how many are true, in parts and after a change, totals that stay true, and the sum of a set.
-- Nothing here has to be believed.
pub mod Ones
pub mod Held
pub mod Sum
