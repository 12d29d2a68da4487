-- Theorems on conjugation and on shots, and the laws that they rest on.
pub mod Theorems
pub mod ShotTheorems
pub mod Laws
