-- Definitions: the number that refuses a share.
pub mod Fit
