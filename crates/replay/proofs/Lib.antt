-- What the proofs of several functions use.
mod Long
mod Begun
