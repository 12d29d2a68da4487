-- Definitions that contracts cite: lists and elements in lent words, and injections that are put. The laws are for the proofs.
pub mod Lists
pub mod Elements
pub mod Injections
pub mod Laws
