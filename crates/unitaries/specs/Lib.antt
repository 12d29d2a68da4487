-- Definitions that contracts cite: what saved rows go to, row by row.
pub mod Images
-- Laws of these definitions.
pub mod Laws
