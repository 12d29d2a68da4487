-- Laws of lines that are put. Assumes nothing.
pub mod Line
pub mod Lines
