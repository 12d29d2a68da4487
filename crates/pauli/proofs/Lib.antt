-- Laws of these definitions.
pub mod Laws
