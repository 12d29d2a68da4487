-- Definitions. The gates with their codes, and what each does to a Pauli, forwards and back. Assumes nothing.
use Rattle.std.specs.Prelude.{List, [], ◌∷◌, ℕ, zero, suc}
use Rattle.std.proofs.Math.Option.{Option, none, some}
use Rattle.pauli.specs.Bits.{Bits, ◌⊕◌, replaced, added}
use Rattle.pauli.specs.Pauli.{Pauli}

pub data Gate : Type 0 where
  I X Y Z Hadamard SqrtZ SqrtZInv SqrtX SqrtXInv SqrtY SqrtYInv ControlledX ControlledZ Swap PrepareBell ControlledY : Gate

-- the gates in the order of their codes, from 0; the last stands in jobs of the second edition alone
unfoldable pub gates : List Gate
gates = I ∷ X ∷ Y ∷ Z ∷ Hadamard ∷ SqrtZ ∷ SqrtZInv ∷ SqrtX ∷ SqrtXInv ∷ SqrtY ∷ SqrtYInv ∷ ControlledX ∷ ControlledZ ∷ Swap ∷ PrepareBell ∷ ControlledY ∷ []

unfoldable pub gate_from : List Gate → ℕ → Option Gate
gate_from [] code = none
gate_from (g ∷ gs) zero = some g
gate_from (g ∷ gs) (suc code) = gate_from gs code

-- the gate of a code, and none above 15
unfoldable pub gate_of : ℕ → Option Gate
unfolding gates
gate_of code = gate_from gates code

-- how many qubits a gate takes: codes to 10 take one, the others two
unfoldable pub operands_of : Gate → ℕ
operands_of I = 1
operands_of X = 1
operands_of Y = 1
operands_of Z = 1
operands_of Hadamard = 1
operands_of SqrtZ = 1
operands_of SqrtZInv = 1
operands_of SqrtX = 1
operands_of SqrtXInv = 1
operands_of SqrtY = 1
operands_of SqrtYInv = 1
operands_of ControlledX = 2
operands_of ControlledZ = 2
operands_of Swap = 2
operands_of PrepareBell = 2
operands_of ControlledY = 2

-- ---- rows: a frame is a Pauli, and its X and Z parts at q are the rows of q

-- Hadamard and SqrtY swap X and Z rows.
unfoldable pub swap_XZ : ℕ → Pauli → Pauli
swap_XZ q F = record { x = replaced F.x q (F.z q); z = replaced F.z q (F.x q) }

-- SqrtZ adds X to Z; SqrtX adds Z to X.
unfoldable pub add_xto_Z : ℕ → Pauli → Pauli
add_xto_Z q F = record { x = F.x; z = added F.z q (F.x q) }

unfoldable pub add_zto_X : ℕ → Pauli → Pauli
add_zto_X q F = record { x = added F.x q (F.z q); z = F.z }

-- ControlledX adds control X to target X, target Z to control Z.
unfoldable pub controlled_X : ℕ → ℕ → Pauli → Pauli
controlled_X a b F = record { x = added F.x b (F.x a); z = added F.z a (F.z b) }

-- ControlledZ adds each X to the other's Z.
unfoldable pub controlled_Z : ℕ → ℕ → Pauli → Pauli
controlled_Z a b F = record { x = F.x; z = added (added F.z b (F.x a)) a (F.x b) }

-- ControlledY adds control X to target X and Z, and the target's old X and Z to control Z.
unfoldable pub controlled_Y : ℕ → ℕ → Pauli → Pauli
controlled_Y a b F = record { x = added F.x b (F.x a); z = added (added F.z b (F.x a)) a (F.x b ⊕ F.z b) }

-- Swap exchanges two qubits' rows.
unfoldable pub exchanged : ℕ → ℕ → Bits → Bits
exchanged a b s = replaced (replaced s a (s b)) b (s a)

unfoldable pub swap_rows_of : ℕ → ℕ → Pauli → Pauli
swap_rows_of a b F = record { x = exchanged a b F.x; z = exchanged a b F.z }

-- PrepareBell is Hadamard on the first, then ControlledX; going back, its halves are reversed.
unfoldable pub prepare_bell : ℕ → ℕ → Pauli → Pauli
prepare_bell a b F = controlled_X a b (swap_XZ a F)

unfoldable pub prepare_bell_back : ℕ → ℕ → Pauli → Pauli
prepare_bell_back a b B = swap_XZ a (controlled_X a b B)

-- ---- gates

-- The gate on its operands a and b (a gate on one qubit has no b); inverses alike; I, X, Y, Z do nothing.
-- PrepareBell's action is a parameter, since it alone is another one going back.
unfoldable pub gate_with : (ℕ → ℕ → Pauli → Pauli) → Gate → ℕ → ℕ → Pauli → Pauli
gate_with bell I a b F = F
gate_with bell X a b F = F
gate_with bell Y a b F = F
gate_with bell Z a b F = F
gate_with bell Hadamard a b F = swap_XZ a F
gate_with bell SqrtZ a b F = add_xto_Z a F
gate_with bell SqrtZInv a b F = add_xto_Z a F
gate_with bell SqrtX a b F = add_zto_X a F
gate_with bell SqrtXInv a b F = add_zto_X a F
gate_with bell SqrtY a b F = swap_XZ a F
gate_with bell SqrtYInv a b F = swap_XZ a F
gate_with bell ControlledX a b F = controlled_X a b F
gate_with bell ControlledZ a b F = controlled_Z a b F
gate_with bell Swap a b F = swap_rows_of a b F
gate_with bell PrepareBell a b F = bell a b F
gate_with bell ControlledY a b F = controlled_Y a b F

abbrev pub conjugated : Gate → ℕ → ℕ → Pauli → Pauli
conjugated = gate_with prepare_bell

abbrev pub conjugated_back : Gate → ℕ → ℕ → Pauli → Pauli
conjugated_back = gate_with prepare_bell_back
