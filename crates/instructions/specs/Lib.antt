-- What reading an accepted job line by line says. Definitions, and laws that proofs cite.
pub mod Reading
pub mod Ahead
pub mod Lines
pub mod Plain
pub mod Laws
