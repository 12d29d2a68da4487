-- What the functions of the correlation check say. Definitions, and laws that proofs cite.
pub mod Sizes
pub mod Links
pub mod Rounds
pub mod Laws
