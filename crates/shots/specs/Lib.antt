-- Definitions that contracts cite: what the shots of a noise line draw.
pub mod Shots
-- Laws of these definitions.
pub mod Laws
