-- Definitions, to be believed, in the order to read them: sets and sums mod 2, Paulis, gates, gates by code, fixed sets and Paulis in words.
pub mod Bits
pub mod Pauli
pub mod Gate
pub mod Code
pub mod Fixed
