-- Laws, for the proofs that cite them: the lines without faults and their walk; the rows by what is carried back. Nothing here has to be believed.
pub mod Quiet
pub mod Rows
