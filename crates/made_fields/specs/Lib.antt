-- Definitions: what is chosen, as the code returns it; fields, parts and lines of made instructions that were put.
pub mod Chosen
pub mod Lines
-- Laws of the loops, and of texts that are put field by field.
pub mod Laws
