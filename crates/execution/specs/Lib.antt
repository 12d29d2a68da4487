-- Definitions that contracts cite: words that hold the states of shots, faults injected in them, and one instruction executed.
pub mod Holds
pub mod Injected
pub mod Steps
-- Laws of these definitions.
pub mod Laws
