-- Definitions, to be believed: bits in words, and the shape of a job's rows.
pub mod Words
pub mod Shape
-- Definitions that contracts cite, from row_loops on: runs of words, listed rows, and the rows as one shot sees them.
pub mod Overwrite
pub mod Listed
pub mod Column
