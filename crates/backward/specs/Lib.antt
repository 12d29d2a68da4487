-- Definitions, to be believed: the walk on lists, and the replies of settling and of walking.
pub mod Walk
pub mod Settling
pub mod Walking
-- Definitions that the theorems about calls use.
pub mod Calls
