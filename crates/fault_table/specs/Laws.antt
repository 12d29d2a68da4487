-- Laws, for the proofs that cite them. Nothing here has to be believed.
-- The lent list group after group, and the words of groups one after the other.
pub mod Listed
pub mod Words
-- Lines back for groups.
pub mod Back
-- Rows and their bytes.
pub mod Putting
-- Characters that are kept, and noise lines by their forms.
pub mod Keeping
pub mod Kinds
-- The lines of a job one after the other, forwards for the table's bytes and back for its rows, and the replies.
pub mod Lines
pub mod Kept
pub mod Measuring
pub mod Going
pub mod Replies
