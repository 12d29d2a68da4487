-- What the code's reading of a line says. Definitions, and laws about them.
pub mod Parsed
pub mod Tried
pub mod Laws
