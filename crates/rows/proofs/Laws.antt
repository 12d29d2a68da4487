-- Laws, for the proofs that cite them: runs of words that are written, turns of loops over listed rows, what each operation does in a single
-- shot, and packed bits. Nothing here has to be believed.
pub mod Overwrite
pub mod Listed
pub mod Column
pub mod Pack
pub mod Part
pub mod Rest
