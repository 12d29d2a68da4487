-- Definitions that contracts cite: a noise line's parts as the code's values, the words that it draws from, a condition's mask.
pub mod Kinds
pub mod Words
pub mod Condition
-- Laws of these definitions.
pub mod Laws
