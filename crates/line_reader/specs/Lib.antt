-- Definitions that contracts cite: the line at a place, the place behind it, and a job's line by its number.
pub mod Reading
