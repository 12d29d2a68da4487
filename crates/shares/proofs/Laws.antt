-- Laws, for the proofs that cite them: places and marks, and what a call does to them. Nothing here has to be believed.
pub mod Places
pub mod Words
pub mod Moves
pub mod Sequences
pub mod Spent
pub mod Alike
pub mod Alone
pub mod Behaviours
pub mod Room
