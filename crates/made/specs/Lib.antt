-- Definitions, to be believed: what is chosen by words, made instructions, made jobs.
pub mod Choice
pub mod Making
pub mod Made
-- The kinds of lines.
pub mod Kinds
