-- Laws, for the proofs that cite them. Nothing here has to be believed.
-- The correlation and the size that a line says, by its form.
pub mod Sizes
-- A correlation looked up in a table.
pub mod Tables
-- Correlations that are found by their remainder.
pub mod Links
-- The check goes on from line to line, and from round to round.
pub mod Rounds
-- The loops over a job's lines.
pub mod Loops
