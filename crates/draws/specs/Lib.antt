-- Definitions, to be believed: what a noise line draws, settling on lists, and execution with the noise in place.
pub mod Draws
pub mod Settle
pub mod Execute
-- Definitions that the theorems on them use.
pub mod Known
-- Definition, to be believed: what a job leaves of the main list, also where its draws are spent.
pub mod Left
