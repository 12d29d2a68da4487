-- Definitions, to be believed: how many are true.
pub mod Ones
-- Definitions that contracts cite: totals that are kept.
pub mod Held
-- Definition that a contract cites: the sum of listed rows in one shot.
pub mod Sum
-- Laws of these definitions.
pub mod Laws
