-- Definitions: what a run of a job prints. Laws.
pub mod Ran
pub mod Laws
