-- Definitions that contracts cite: where the values of a line lie in lent words, how the words hold them, and what reading by a template says.
pub mod Values
pub mod Fields
-- Laws of these definitions.
pub mod Laws
