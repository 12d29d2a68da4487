-- Definitions that contracts cite: the state of each shot in the words of the three matrices, and what it is for words to follow a rule in every shot.
pub mod Acts
-- Laws of these definitions.
pub mod Laws
