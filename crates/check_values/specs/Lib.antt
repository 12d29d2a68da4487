-- What the tests take the values of a line and the lines before it to be. Definitions, and laws that proofs cite.
pub mod Slots
pub mod Marks
pub mod Floats
pub mod Pairs
pub mod Contexts
pub mod Laws
