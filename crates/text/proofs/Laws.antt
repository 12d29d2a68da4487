-- Laws, for the proofs that cite them: what a value is known for by its letter, and the bytes that a line has from its template; bytes cut at a separator,
-- digits, and what is written and reads back. Nothing here has to be believed.
pub mod Values
pub mod Places
pub mod Pieces
pub mod Numbers
pub mod Written
