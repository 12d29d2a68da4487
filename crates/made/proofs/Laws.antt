-- Laws, for the proofs that cite them. Nothing here has to be believed.
-- What is chosen, whatever the state.
pub mod Choice
-- Values by the letters of a template.
pub mod Values
-- Made instructions; lines of Paulis and outcomes, lines with operands, Cliffords.
pub mod Makes
pub mod Lines
pub mod Operands
pub mod Tables
-- Made noise, with its element lines.
pub mod Noise
-- The lines of a made job.
pub mod Jobs
-- The text and the call.
pub mod Replies
-- Kinds of lines come up, and no others are allowed.
pub mod Come
pub mod Allowed
-- Choices by the words that they take, for code.
pub mod Words
