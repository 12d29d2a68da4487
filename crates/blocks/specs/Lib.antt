-- Definitions that the contracts of this crate cite: a block's exchange and its rounds, and every step-th word of a list.
pub mod Exchange
pub mod Strided
-- Laws of these definitions.
pub mod Laws
