-- Laws, for the proofs that cite them. Nothing here has to be believed.
-- Sums of Paulis: whole and Gaussian integers, phases of products, terms, sums, their products, what sums take Paulis to, unitaries.
pub mod Integer
pub mod Gaussian
pub mod Phase
pub mod Same
pub mod Terms
pub mod Sums
pub mod Products
pub mod Takes
pub mod Unitary
-- The sums that document 01 lists, and the gates.
pub mod Roots
pub mod Controlled
pub mod Gates
-- Images extended to products: operands by their places, generators, maps that extend images, Cliffords, permutations, sums with such images.
pub mod Places
pub mod Generators
pub mod Images
pub mod Commutation
pub mod Clifford
pub mod Permutation
pub mod Taken
-- What the tests of a line say of its operands; frames on the qubits of a job.
pub mod Lines
pub mod Within
-- Linearity of the lines without a fault, and the faults of other shots.
pub mod Linear
pub mod RunShots
-- Injections and flips by the other lines between which they stand.
pub mod Gaps
pub mod Times
