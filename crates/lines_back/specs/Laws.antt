-- Laws, for the proofs that cite them. Nothing here has to be believed.
-- Words of bits.
pub mod Packed
-- Parts of a set at the operands.
pub mod Parts
-- Cliffords and permutations going back, by places.
pub mod Images
-- The job's own number of qubits, and 256.
pub mod Same
-- Each kind of line.
pub mod Kinds
-- Lines by their forms.
pub mod Forms
