-- What an examination says of a job. Definitions, and laws that proofs cite.
pub mod Examines
pub mod Laws
