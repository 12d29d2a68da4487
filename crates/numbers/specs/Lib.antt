-- Definitions that contracts cite: what the readers of numbers and lists say.
pub mod Read
pub mod Hex
pub mod Known
-- Laws of these definitions.
pub mod Laws
