-- The whole reply of an examination. Definitions, and laws that proofs cite.
pub mod Reply
pub mod Laws
