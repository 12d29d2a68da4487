-- Definitions that contracts cite: the reply of the calls together.
pub mod Agree
-- That they agree.
pub mod Theorems
-- Laws of these definitions.
pub mod Laws
