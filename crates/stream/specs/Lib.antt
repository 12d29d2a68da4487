-- Definitions, to be believed: the stream and its call.
pub mod Stream
-- What a reader wants to know of them.
pub mod Theorems
-- Laws of these definitions.
pub mod Laws
