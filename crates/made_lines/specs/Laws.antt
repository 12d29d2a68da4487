-- Laws, for the proofs that cite them. Nothing here has to be believed.
pub mod Standing
-- Instructions of one line.
pub mod Gates
pub mod Cliffords
pub mod Plain
-- Lines of noise.
pub mod Noise
-- Element lines.
pub mod Elements
