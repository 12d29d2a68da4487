-- Definitions, to be believed: the groups of a lent list, and the table of single faults.
pub mod Groups
pub mod Table
-- Definitions that contracts of the code below the call use.
pub mod Carried
