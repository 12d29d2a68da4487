-- Laws, for the proofs that cite them. Nothing here has to be believed.
-- Forms that a line can not have, by a few of its bytes.
pub mod Sift
-- A line that one form was tried on.
pub mod Tried
-- Noise lines.
pub mod Noise
