-- Definitions that contracts cite: the tests of a job, the shape of its rows, whether enough words are lent, and where its instructions begin.
pub mod Tested
pub mod Enough
pub mod Header
-- Laws of these definitions.
pub mod Laws
