-- Definitions. The lines of a job and its instructions, as document 01, "The job", lists them. Lists are kept as they are written. Assumes nothing.
use Rattle.std.specs.Prelude.{Bool, List, ℕ, ◌-◌, ◌^◌, length}
use Rattle.std.proofs.Math.Option.{Option}
use Rattle.pauli.specs.Bits.{members}
use Rattle.pauli.specs.Pauli.{Pauli}
use Rattle.pauli.specs.Gate.{Gate}

-- a Pauli as it is written: two lists, the qubits with an X part and the qubits with a Z part
pub record SparsePauli : Type 0 where
  pub x : List ℕ
  pub z : List ℕ

unfoldable pub pauli_of : SparsePauli → Pauli
pauli_of P = record { x = members P.x; z = members P.z }

-- The lines that are no noise, in the order of document 01: u, c, p, e, k, m, o, r, f, z, i, t; and b, of the second edition.
pub data Line : Type 0 where
  -- the gate and its operands
  unitary : Gate → List ℕ → Line
  -- the operands and the table
  clifford : List ℕ → ℕ → Line
  pauli : SparsePauli → Line
  exponential : SparsePauli → Line
  -- control, then target
  controlled : SparsePauli → SparsePauli → Line
  -- the places s and the operands
  permute : List ℕ → List ℕ → Line
  -- the observable and the outcome's id
  measure : SparsePauli → ℕ → Line
  -- the id, and whether the outcome is an angle
  allocate : ℕ → Bool → Line
  -- the Pauli, the ids and the parity, which frames ignore
  conditional : SparsePauli → List ℕ → Bool → Line
  -- the qubits, of which a line of the first edition has one
  reset : List ℕ → Line
  -- the shot and the Pauli
  inject : ℕ → SparsePauli → Line
  -- the shot and the id
  flip : ℕ → ℕ → Line
  -- the qubits
  barrier : List ℕ → Line

-- an element with its weight, by its bits
pub record WeightedPauli : Type 0 where
  pub weight : ℕ
  pub pauli : SparsePauli

-- A distribution is one of four kinds: d=1, the one element; d=2, all Paulis but the identity on the qubits of a list; d=3, a list of elements;
-- d=4, a list of elements with weights.
pub data Distribution : Type 0 where
  single : SparsePauli → Distribution
  depolarizing : List ℕ → Distribution
  uniform : List SparsePauli → Distribution
  weighted : List WeightedPauli → Distribution

-- the elements of a distribution in number: 1, 4^k - 1 or n
unfoldable pub size_of : Distribution → ℕ
size_of (Distribution.single P) = 1
size_of (Distribution.depolarizing qs) = 4 ^ length qs - 1
size_of (Distribution.uniform Ps) = length Ps
size_of (Distribution.weighted es) = length es

-- A noise line's condition: its outcomes, none where the list is empty, and the parity of their noiseless bits.
pub record OutcomeCondition : Type 0 where
  pub outcomes : List ℕ
  pub parity : Bool

-- A noise line's probability (by its bits), correlation, condition, distribution and the distribution's size, as it is written.
pub record Noise : Type 0 where
  pub probability : ℕ
  pub correlation : Option ℕ
  pub condition : OutcomeCondition
  pub distribution : Distribution
  pub size : ℕ

-- Noise and its element lines make one instruction.
pub data Instruction : Type 0 where
  line : Line → Instruction
  noise : Noise → Instruction

-- an instruction with the number of its line, which for noise is the noise line, and that line's bytes
pub record Placed : Type 0 where
  pub line : ℕ
  pub text : List ℕ
  pub instruction : Instruction
