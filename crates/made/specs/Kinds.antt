-- Definitions: the kinds of lines, and where each is allowed, for the theorem that each comes up in made jobs. Assumes nothing.
use Rattle.std.specs.Prelude.{◌≡◌, cond, List, ◌∷◌, ◌++◌, ℕ, ◌≤◌, ltb, length}
use Rattle.pauli.specs.Gate.{Gate, operands_of}
use Rattle.job.specs.Line.{Line, Distribution, Instruction}

-- in the order of the ring: u with its gate, c, p, e, k, m, f; z of one qubit, and of several; i; noise with d=1 to d=4; t, o, r, b
pub data LineKind : Type 0 where
  unitary : Gate → LineKind
  clifford pauli exponential controlled permute conditional reset resetList inject single depolarizing uniform weighted flip measure allocate barrier : LineKind

unfoldable pub line_kind : Line → LineKind
line_kind (Line.unitary g qs) = LineKind.unitary g
line_kind (Line.clifford qs t) = LineKind.clifford
line_kind (Line.pauli P) = LineKind.pauli
line_kind (Line.exponential P) = LineKind.exponential
line_kind (Line.controlled C T) = LineKind.controlled
line_kind (Line.permute s qs) = LineKind.permute
line_kind (Line.measure P id) = LineKind.measure
line_kind (Line.allocate id angle) = LineKind.allocate
line_kind (Line.conditional P ids par) = LineKind.conditional
line_kind (Line.reset qs) = cond (ltb 1 (length qs)) LineKind.resetList LineKind.reset
line_kind (Line.inject shot P) = LineKind.inject
line_kind (Line.flip shot id) = LineKind.flip
line_kind (Line.barrier qs) = LineKind.barrier

unfoldable pub noise_kind_of : Distribution → LineKind
noise_kind_of (Distribution.single P) = LineKind.single
noise_kind_of (Distribution.depolarizing qs) = LineKind.depolarizing
noise_kind_of (Distribution.uniform Ps) = LineKind.uniform
noise_kind_of (Distribution.weighted es) = LineKind.weighted

unfoldable pub kind_of : Instruction → LineKind
kind_of (Instruction.line l) = line_kind l
kind_of (Instruction.noise n) = noise_kind_of n.distribution

-- an instruction that is so is among these
pub record Among (Is : Instruction → Type 0) (all : List Instruction) : Type 0 where
  pub before : List Instruction
  pub instruction : Instruction
  pub is : Is instruction
  pub behind : List Instruction
  pub split : all ≡ before ++ instruction ∷ behind

-- and this many instructions stand before it
pub record StandsAt (place : ℕ) (Is : Instruction → Type 0) (all : List Instruction) : Type 0 where
  pub among : Among Is all
  pub place_is : length among.before ≡ place

abbrev pub OfKind : LineKind → Instruction → Type 0
OfKind kind i = kind_of i ≡ kind

-- ---- what is allowed

-- the fewest qubits, outcomes and lines of a job in which a kind can stand in either edition, which the seed chooses
pub record Needs : Type 0 where
  pub qubits : ℕ
  pub outcomes : ℕ
  pub lines : ℕ

abbrev pub at_least : ℕ → ℕ → ℕ → Needs
at_least qubits outcomes lines = record { qubits = qubits; outcomes = outcomes; lines = lines }

-- a gate needs its operands, o and r an outcome, and t one that a line before it records
unfoldable pub needs_of : LineKind → Needs
needs_of (LineKind.unitary g) = at_least (operands_of g) 0 1
needs_of LineKind.clifford = at_least 1 0 1
needs_of LineKind.pauli = at_least 1 0 1
needs_of LineKind.exponential = at_least 1 0 1
needs_of LineKind.controlled = at_least 1 0 1
needs_of LineKind.permute = at_least 1 0 1
needs_of LineKind.conditional = at_least 1 0 1
needs_of LineKind.reset = at_least 1 0 1
needs_of LineKind.resetList = at_least 2 0 1
needs_of LineKind.inject = at_least 1 0 1
needs_of LineKind.single = at_least 1 0 1
needs_of LineKind.depolarizing = at_least 1 0 1
needs_of LineKind.uniform = at_least 1 0 1
needs_of LineKind.weighted = at_least 1 0 1
needs_of LineKind.flip = at_least 1 1 2
needs_of LineKind.measure = at_least 1 1 1
needs_of LineKind.allocate = at_least 1 1 1
needs_of LineKind.barrier = at_least 1 0 1

-- a job with these numbers of qubits, outcomes and lines may hold a line of the kind
pub record Allowed (qubits outcomes lines : ℕ) (kind : LineKind) : Type 0 where
  pub enough_qubits : (needs_of kind).qubits ≤ qubits
  pub enough_outcomes : (needs_of kind).outcomes ≤ outcomes
  pub enough_lines : (needs_of kind).lines ≤ lines

-- ---- seeds

-- a seed for each gate: in every job that allows it the first line has the gate
unfoldable pub gate_seed : Gate → ℕ
gate_seed Gate.I = 1951
gate_seed Gate.X = 3999
gate_seed Gate.Y = 9631
gate_seed Gate.Z = 288
gate_seed Gate.Hadamard = 6591
gate_seed Gate.SqrtZ = 832
gate_seed Gate.SqrtZInv = 576
gate_seed Gate.SqrtX = 3487
gate_seed Gate.SqrtXInv = 4063
gate_seed Gate.SqrtY = 768
gate_seed Gate.SqrtYInv = 1632
gate_seed Gate.ControlledX = 447
gate_seed Gate.ControlledZ = 96
gate_seed Gate.Swap = 256
gate_seed Gate.PrepareBell = 511
gate_seed Gate.ControlledY = 23

-- a seed for each kind: in every job that allows it the first line is of the kind (for t the second)
unfoldable pub kind_seed : LineKind → ℕ
kind_seed (LineKind.unitary g) = gate_seed g
kind_seed LineKind.clifford = 3
kind_seed LineKind.pauli = 11
kind_seed LineKind.exponential = 2
kind_seed LineKind.controlled = 24
kind_seed LineKind.permute = 6
kind_seed LineKind.conditional = 4
kind_seed LineKind.reset = 26
kind_seed LineKind.resetList = 5
kind_seed LineKind.inject = 15
kind_seed LineKind.single = 7
kind_seed LineKind.depolarizing = 12
kind_seed LineKind.uniform = 18
kind_seed LineKind.weighted = 8
kind_seed LineKind.flip = 17
kind_seed LineKind.measure = 20
kind_seed LineKind.allocate = 1
kind_seed LineKind.barrier = 77

-- how many lines stand before it: one, which records an outcome, for t
unfoldable pub place_of : LineKind → ℕ
place_of (LineKind.unitary g) = 0
place_of LineKind.clifford = 0
place_of LineKind.pauli = 0
place_of LineKind.exponential = 0
place_of LineKind.controlled = 0
place_of LineKind.permute = 0
place_of LineKind.conditional = 0
place_of LineKind.reset = 0
place_of LineKind.resetList = 0
place_of LineKind.inject = 0
place_of LineKind.single = 0
place_of LineKind.depolarizing = 0
place_of LineKind.uniform = 0
place_of LineKind.weighted = 0
place_of LineKind.flip = 1
place_of LineKind.measure = 0
place_of LineKind.allocate = 0
place_of LineKind.barrier = 0
