-- Definitions that contracts cite: what a pass puts for one instruction, and the settled text of a whole job. The laws are for the proofs.
pub mod Pass
pub mod Whole
pub mod Laws
