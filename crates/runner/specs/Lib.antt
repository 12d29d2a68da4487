-- Definitions that contracts cite: a run over lent words.
pub mod Ran
-- Laws of a run over lent words.
pub mod Laws
