-- Definitions that the contracts use.
-- The groups of a lent list and their words, and a line back for them.
pub mod Lent
pub mod Back
-- Rows and their bytes, and what a line says of its rows.
pub mod Rows
pub mod Said
-- The table's bytes.
pub mod Table
-- Laws of these definitions.
pub mod Laws
