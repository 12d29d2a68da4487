-- Definitions that contracts cite: the values of a line that is put. The laws are for the proofs.
pub mod Line
pub mod Laws
