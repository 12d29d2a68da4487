-- What the functions of annotation say, of the qubits of a line's noise and of the text. Definitions, and laws that proofs cite.
pub mod Qubits
pub mod Lines
pub mod Laws
