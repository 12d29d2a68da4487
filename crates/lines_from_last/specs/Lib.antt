-- Definitions that contracts cite: a line before a place, and a line of an accepted job.
pub mod Line
-- Laws of these definitions.
pub mod Laws
