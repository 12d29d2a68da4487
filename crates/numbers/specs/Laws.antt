-- Laws, for the proofs that cite them. Nothing here has to be believed.
pub mod Pieces
pub mod Read
pub mod Lists
pub mod Members
pub mod Hex
pub mod Rising
pub mod Known
