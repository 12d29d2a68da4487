-- Definitions that contracts cite: the refusal that comes first.
pub mod Refusal
-- Laws of calls by a caller with a share.
pub mod Laws
