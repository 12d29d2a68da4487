-- Laws, for the proofs that cite them: sums mod 2, sets, sums over lists, the commutation of Paulis, gates as products, the group of Paulis; then
-- words: their bits, parities, sets and Paulis in words, what gates add, gates by code. Nothing here has to be believed.
pub mod F2
pub mod Parity
pub mod Sums
pub mod Pairing
pub mod Gates
pub mod Group
pub mod Word
pub mod Parts
pub mod Set
pub mod Clash
pub mod Changes
pub mod Code
