-- Laws, for the proofs that cite them. Nothing here has to be believed.
-- The tests of a job and of a share.
pub mod Tests
-- The whole reply, of any call, of a run, of settling.
pub mod Replies
pub mod Run
pub mod Settle
