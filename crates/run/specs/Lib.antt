-- Definitions, to be believed: the reply of a run.
pub mod Run
