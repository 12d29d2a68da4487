-- Definitions that contracts cite: the threshold, and words that bring no fault.
pub mod Scan
-- Laws of these definitions.
pub mod Laws
