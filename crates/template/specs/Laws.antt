-- Laws, for the proofs that cite them: lent words with one value more, and lines read by a template. Nothing here has to be believed.
pub mod Fields
pub mod Reading
