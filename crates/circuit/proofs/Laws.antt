-- Laws, for the proofs that cite them: each number of a list at its first appearance; annotated lines are accepted, and are the annotated list; the correlation
-- check by two measures; replies. Nothing here has to be believed.
pub mod First
pub mod Annotated
pub mod Correlation
pub mod Replies
