-- What is handed out from place to place are the job's lines.
-- Laws of these definitions.
pub mod Theorems
pub mod Laws
