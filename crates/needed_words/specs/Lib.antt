-- Definitions that contracts cite: a job executed to its end, and what a run leaves in the words that it needs.
pub mod Executed
pub mod Needed
-- Laws of these definitions.
pub mod Laws
