-- Laws of these definitions.
-- Theorems on them.
pub mod Laws
pub mod Theorems
pub mod SettledTheorems
pub mod RunTheorems
