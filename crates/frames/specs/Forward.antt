-- Definitions. What the lines do to the frame and the deltas of one shot, as in document 01, "Frames and lines". Assumes nothing.
use Rattle.std.specs.Prelude.{Bool, List, [], ◌∷◌, ℕ, suc, ◌+◌, eqb, length, get_or}
use Rattle.pauli.specs.Bits.{Bits, ◌∩◌, ◌△◌, none, only, given, added, members, parity}
use Rattle.pauli.specs.Pauli.{Pauli, identity, X_at, Z_at, ◌∗◌, when, anticommutes, cleared}
use Rattle.pauli.specs.Gate.{conjugated}
use Rattle.job.specs.declared.Header.{Header}
use Rattle.job.specs.Line.{pauli_of, Line}
use Rattle.job.specs.Clifford.{row_over}

-- ---- exponentials and controlled Paulis

-- An exponential adds its Pauli where the frame anticommutes with it.
unfoldable pub exponentiate : ℕ → Pauli → Pauli → Pauli
exponentiate n P F = F ∗ when (anticommutes n F P) P

-- A controlled Pauli takes both masks first, then adds target under control's mask and control under target's.
unfoldable pub controlled_pauli : ℕ → Pauli → Pauli → Pauli → Pauli
controlled_pauli n C T F = F ∗ when (anticommutes n F C) T ∗ when (anticommutes n F T) C

-- ---- Cliffords and permutations

-- An operand, with the images of X and Z on it.
pub record Image : Type 0 where
  pub qubit : ℕ
  pub of_X : Pauli
  pub of_Z : Pauli

-- the operands whose place has a true bit in the row
unfoldable pub placed : Bits → List ℕ → Bits
placed row [] = none
placed row (q ∷ qs) = given (row 0) (only q) △ placed (λ j. row (suc j)) qs

-- row r of the table t on the operands qs: its parts at the places are put on the operands there
unfoldable pub table_row : List ℕ → ℕ → ℕ → Pauli
table_row qs t r =
    let row = row_over (length qs) t r in
    record { x = placed row.x qs; z = placed row.z qs }

-- The images of the operands from place i on: rows 0 to k-1 are the images of X, the next k of Z.
unfoldable pub images_from : List ℕ → ℕ → ℕ → List ℕ → List Image
images_from qs t i [] = []
images_from qs t i (q ∷ rest) = record { qubit = q; of_X = table_row qs t i; of_Z = table_row qs t (length qs + i) } ∷ images_from qs t (suc i) rest

unfoldable pub images_of : List ℕ → ℕ → List Image
images_of qs t = images_from qs t 0 qs

-- Old content of place i goes to place s_i: X and Z on operand i become X and Z on the operand at s_i.
unfoldable pub places_of : List ℕ → List ℕ → List ℕ → List Image
places_of places [] qs = []
places_of places (j ∷ s) [] = []
places_of places (j ∷ s) (q ∷ qs) = record { qubit = q; of_X = X_at (get_or places j 0); of_Z = Z_at (get_or places j 0) } ∷ places_of places s qs

-- the sum of the images of the frame's parts
unfoldable pub image_sum : List Image → Pauli → Pauli
image_sum [] F = identity
image_sum (g ∷ gs) F = when (F.x g.qubit) g.of_X ∗ when (F.z g.qubit) g.of_Z ∗ image_sum gs F

-- the sum of the images, put for the frame's parts on the operands
unfoldable pub transformed : List ℕ → List Image → Pauli → Pauli
transformed qs gs F = cleared qs F ∗ image_sum gs F

-- ---- lines on a frame and deltas

-- the frame and the deltas of one shot
pub record State : Type 0 where
  pub frame : Pauli
  pub deltas : Bits

-- a job's numbers of qubits and outcomes, and the shot that is looked at
pub record Setting : Type 0 where
  pub qubits : ℕ
  pub outcomes : ℕ
  pub shot : ℕ

-- a shot of a job with this header
abbrev pub setting_of : Header → ℕ → Setting
setting_of h shot = record { qubits = h.qubits; outcomes = h.outcomes; shot = shot }

abbrev pub on_frame : (Pauli → Pauli) → State → State
on_frame f s = record { frame = f s.frame; deltas = s.deltas }

abbrev pub on_delta : ℕ → Bool → State → State
on_delta id b s = record { frame = s.frame; deltas = added s.deltas id b }

unfoldable pub forward : Setting → Line → State → State
forward c (Line.unitary g qs) s = on_frame (conjugated g (get_or qs 0 0) (get_or qs 1 0)) s
forward c (Line.clifford qs t) s = on_frame (transformed qs (images_of qs t)) s
forward c (Line.pauli P) s = s
forward c (Line.exponential P) s = on_frame (exponentiate c.qubits (pauli_of P)) s
forward c (Line.controlled C T) s = on_frame (controlled_pauli c.qubits (pauli_of C) (pauli_of T)) s
forward c (Line.permute p qs) s = on_frame (transformed qs (places_of qs p qs)) s
-- Measuring adds the mask to the outcome's row.
forward c (Line.measure P id) s = on_delta id (anticommutes c.qubits s.frame (pauli_of P)) s
forward c (Line.allocate id angle) s = s
-- A conditional adds its Pauli where the listed deltas sum to 1.
forward c (Line.conditional P ids par) s = on_frame (λ F. F ∗ when (parity c.outcomes (s.deltas ∩ members ids)) (pauli_of P)) s
-- Reset clears both rows of its qubits.
forward c (Line.reset qs) s = on_frame (cleared qs) s
-- Injection adds a Pauli, a flip 1, in its shot.
forward c (Line.inject shot P) s = on_frame (λ F. F ∗ when (eqb shot c.shot) (pauli_of P)) s
forward c (Line.flip shot id) s = on_delta id (eqb shot c.shot) s
-- A barrier changes nothing.
forward c (Line.barrier qs) s = s

-- the lines from first to last
unfoldable pub run : Setting → List Line → State → State
run c [] s = s
run c (l ∷ ls) s = run c ls (forward c l s)

-- a cleared frame and deltas of 0
unfoldable pub start : State
start = record { frame = identity; deltas = none }
