-- Laws, for the proofs that cite them. Nothing here has to be believed.
-- The rows of a table as words.
pub mod Rows
-- A row, and unused bits, from the words of a table.
pub mod Words
