-- Definitions: what was put of a whole job.
pub mod Whole
-- Laws of made texts that are put, and of the reply.
pub mod Laws
