-- Definitions: the lines of a printed session, each by itself. Laws.
pub mod Lines
pub mod Laws
