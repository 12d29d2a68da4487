-- Definitions, to be believed, in document 01's order: lines and instructions, rising lists, binary64, the Clifford table, the forms of lines, the
-- tests of a line, and the whole job with test 1; and what calls reply.
pub mod Line
pub mod Rising
pub mod Float
pub mod Clifford
pub mod Grammar
pub mod Checks
pub mod Job
pub mod Reply
pub mod InRange
-- The numbers of refusals, for contracts of single functions.
pub mod Refusals
-- What an accepted job is known for, and what a line by its form alone; and, for theorems, the marks of lines, the contexts between lines, and a
-- reader of the first edition.
pub mod Sound
pub mod Fits
pub mod Marks
pub mod Contexts
pub mod Editions
