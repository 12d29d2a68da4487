-- Definitions that contracts cite: what reading a record says, and that a list begins as another.
pub mod Records
pub mod Front
-- A law on the lists of a record.
pub mod Laws
