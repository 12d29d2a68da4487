-- Definitions, to be believed: bytes put from a place on, and replies with text. The laws are for the proofs.
pub mod Placed
pub mod Reply
pub mod Laws
