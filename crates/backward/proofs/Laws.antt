-- Laws, for the proofs that cite them: transposes under the commutation form, what run and walk keep, the walk's shots apart, settled
-- lines, replies and how they agree, the bits of a shot, totals. Nothing here has to be believed.
pub mod Transpose
pub mod Duality
pub mod WalkShots
pub mod Settled
pub mod Replies
pub mod CallsAgree
pub mod ShotBits
pub mod Totals
