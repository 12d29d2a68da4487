-- Definitions: the kind that is made where one was chosen; what was put of a Pauli's line and of made noise.
pub mod Ring
pub mod Plain
pub mod Noise
-- Laws of the ring and of each kind's lines.
pub mod Laws
