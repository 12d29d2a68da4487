-- Laws, for the proofs that cite them. Nothing here has to be believed.
-- Lists by their places.
pub mod Lists
-- A list made rising.
pub mod Rising
-- The size of a depolarizing distribution.
pub mod Sizes
-- Permutations of the places (test 6).
pub mod Permutation
-- The table of a Clifford by its words.
pub mod Table
-- The tests of a line that passes.
pub mod Tests
-- What a line says, by the letters of its form.
pub mod Forms
-- The one form that a line can have, by its mark.
pub mod Dispatch
-- A header with the field `edition` has no form of the first edition.
pub mod Editions
-- A line that passes is sound.
pub mod Lines
-- An accepted job line by line.
pub mod Accepted
-- From the bytes of an accepted job to its lines.
pub mod Begun
-- The instructions of accepted lines are sound.
pub mod Gather
-- The outcomes that instructions record.
pub mod Recorded
-- A line of the second edition in a job of the first.
pub mod Second
-- Accepted lines instruction by instruction.
pub mod Instructions
-- The numbers of a job's tests are none of the calls' own.
pub mod Numbers
-- No refusal has the number 0.
pub mod Refusals
-- Sound lines pass: the other way round.
pub mod Passes
-- Texts that say instructions, noise with its element lines: they are accepted, and say what is gathered of them.
pub mod Said
pub mod SaidGathered
-- Sound lines are in range, as theorems about lists of lines ask.
pub mod Range
-- Lines that are written by a form's template, and texts of lines as jobs.
pub mod Texts
