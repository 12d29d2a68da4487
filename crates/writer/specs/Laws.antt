-- Laws of texts that are put. Assumes nothing.
pub mod Placing
pub mod Digits
pub mod Lists
pub mod Lengths
pub mod Fits
