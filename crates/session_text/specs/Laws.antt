-- Laws about the text of a session.
pub mod Lines
