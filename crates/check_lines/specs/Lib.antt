-- What the tests of lines say. Definitions, and laws that proofs cite.
pub mod Listed
pub mod Laws
