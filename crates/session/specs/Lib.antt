-- Definitions, to be believed: the printed session.
pub mod Session
