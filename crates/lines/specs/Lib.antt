-- Definitions that contracts cite: a line as its fields hold it, and what it is to obey it.
pub mod Plain
-- Laws of these definitions.
pub mod Laws
