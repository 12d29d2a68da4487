-- Laws, for the proofs that cite them. Nothing here has to be believed.
-- Lines by their forms.
pub mod Obey
