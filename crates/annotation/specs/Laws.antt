-- Laws, for the proofs that cite them. Nothing here has to be believed.
-- The least of two rising lists.
pub mod Least
-- Two rising lists merged member by member.
pub mod Merging
-- Each number at its first appearance.
pub mod First
-- The qubits of a line by its form.
pub mod Noise
-- Annotation, line by line.
pub mod Around
-- The loop over a job's lines.
pub mod Annotating
-- The replies of the call.
pub mod Replies
-- The locations of a job.
pub mod Counting
