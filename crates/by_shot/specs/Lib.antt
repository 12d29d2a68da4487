-- Definitions, to be believed: the replies.
pub mod Reply
-- What a reader wants to know of them.
pub mod Theorems
-- Definitions that contracts inside this crate cite, and laws.
pub mod Blocks
pub mod Laws
