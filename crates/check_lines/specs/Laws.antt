-- Laws, for the proofs that cite them. Nothing here has to be believed.
-- The tests of the header and of each form but noise and elements.
pub mod Lines
-- The header's numbers and the outcomes recorded.
pub mod Header
-- Which forms the second edition adds.
pub mod Editions
-- The tests of a noise line and of an element line.
pub mod Noise
-- The element lines that are due, and the sum of their weights.
pub mod Elements
