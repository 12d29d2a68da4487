-- Laws, for the proofs that cite them. Nothing here has to be believed.
-- Where the lines of a job begin and end.
pub mod Places
-- What a line says, by groups of forms.
pub mod Meaning
-- A job from instruction to instruction.
pub mod Steps
-- The element lines of a noise line.
pub mod Elements
-- The lines of an accepted job, one after the other.
pub mod Lines
-- What the values of a plain line say.
pub mod Read
-- The line at a place of a job, as it is handed out; and a line that is known to be one of an accepted job.
pub mod Known
