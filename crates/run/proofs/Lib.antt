-- Theorems about them.
pub mod Theorems
