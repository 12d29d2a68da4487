-- Definitions, to be believed: what the lines do to a frame, and what conjugation is.
pub mod Forward
pub mod Conjugation
-- Definitions that the theorems about shots use.
pub mod Shots
