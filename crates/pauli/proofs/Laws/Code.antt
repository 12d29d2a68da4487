-- Gates by ranges of their codes, and by their names. Assumes nothing.
use Rattle.std.specs.Prelude.{◌≡◌, ◌⊎◌, true, List, [], ◌∷◌, ℕ, zero, suc, ◌+◌, ◌-◌, ◌≤◌, ◌<◌, get_or}
use Rattle.std.proofs.Math.Path.{refl}
use Rattle.std.proofs.Common.{inl, inr, subst, not-suc-le-zero, le_of_suc-le-suc, arith, ltb-true}
use Rattle.std.proofs.Math.Option.{Option, none, some}
use Rattle.std.proofs.Math.Decide.{ℕ_discrete}
use Rattle.std.proofs.Math.Dec.{ltb}
use Rattle.std.proofs.Math.ListN.{length}
use Rattle.pauli.specs.Pauli.{Pauli}
use Rattle.pauli.specs.Gate.{Gate, gates, gate_from, gate_of, operands_of, gate_with, swap_XZ, add_xto_Z, add_zto_X}
use Rattle.pauli.specs.Code.{by_gate, operand_count_of, gate_named}
use Rattle.pauli.specs.declared.Gate.{Gate as GateName}
use Rattle.pauli.specs.declared.Gate.TheVariants as name

-- ---- two functions with the same values over a range

-- the values at the n numbers from k on, for antt to compute
abbrev pub values_from : {A : Type 0} → ℕ → ℕ → (ℕ → A) → List A
values_from k zero f = []
values_from k (suc n) f = f k ∷ values_from (suc k) n f

pub same_at : {A : Type 0} (f g : ℕ → A) (k n : ℕ) → values_from k n f ≡ values_from k n g → (i : ℕ) → k ≤ i → i < k + n → f i ≡ g i
same_at f g k zero e i h l = absurd (omega arith)
same_at f g k (suc n) e i h l = go (ℕ_discrete k i) (cc) (same_at f g (suc k) n (cc) i)
  where
    go : Dec (k ≡ i) → f k ≡ g k → (k < i → i < suc k + n → f i ≡ g i) → f i ≡ g i
    go (yes p) here later = subst (λ (j : ℕ). f j ≡ g j) p here
    go (no p) here later = later (omega (arith, p)) (omega arith)

-- ---- codes

from_none : (gs : List Gate) (code : ℕ) → length gs ≤ code → gate_from gs code ≡ none
unfolding gate_from
from_none [] code h = refl
from_none (g ∷ gs) zero h = absurd (not-suc-le-zero h)
from_none (g ∷ gs) (suc code) h = from_none gs code (le_of_suc-le-suc h)

-- a code above 15 has no gate
pub gate_none : (code : ℕ) → 16 ≤ code → gate_of code ≡ none
unfolding gate_of gates
gate_none code h = from_none gates code h

-- ---- gates by their names

module _ (bell : ℕ → ℕ → Pauli → Pauli) (a b : ℕ) (P : Pauli) where
  -- what the gate of a name makes of P
  abbrev made : GateName → Pauli
  made h = gate_with bell (gate_named h) a b P

  module _ {g : GateName} where
    pub idle_made : (g ≡ name.I) ⊎ ((g ≡ name.X) ⊎ ((g ≡ name.Y) ⊎ (g ≡ name.Z))) → P ≡ made g
    unfolding gate_with gate_named
    idle_made (inl e) = rw e
    idle_made (inr (inl e)) = rw e
    idle_made (inr (inr (inl e))) = rw e
    idle_made (inr (inr (inr e))) = rw e

    pub swap_made : (g ≡ name.Hadamard) ⊎ ((g ≡ name.SqrtY) ⊎ (g ≡ name.SqrtYInv)) → swap_XZ a P ≡ made g
    unfolding gate_with gate_named
    swap_made (inl e) = rw e
    swap_made (inr (inl e)) = rw e
    swap_made (inr (inr e)) = rw e

    pub sqrt_Z_made : (g ≡ name.SqrtZ) ⊎ (g ≡ name.SqrtZInv) → add_xto_Z a P ≡ made g
    unfolding gate_with gate_named
    sqrt_Z_made (inl e) = rw e
    sqrt_Z_made (inr e) = rw e

    pub sqrt_X_made : (g ≡ name.SqrtX) ⊎ (g ≡ name.SqrtXInv) → add_zto_X a P ≡ made g
    unfolding gate_with gate_named
    sqrt_X_made (inl e) = rw e
    sqrt_X_made (inr e) = rw e

-- gates other than PrepareBell don't mind what PrepareBell does
pub alike : (bell bell' : ℕ → ℕ → Pauli → Pauli) (a b : ℕ) (P : Pauli) (g : GateName) → (g ≡ name.PrepareBell → ⊥)
    → gate_with bell (gate_named g) a b P ≡ gate_with bell' (gate_named g) a b P
unfolding gate_with gate_named
alike bell bell' a b P name.I other = refl
alike bell bell' a b P name.X other = refl
alike bell bell' a b P name.Y other = refl
alike bell bell' a b P name.Z other = refl
alike bell bell' a b P name.Hadamard other = refl
alike bell bell' a b P name.SqrtZ other = refl
alike bell bell' a b P name.SqrtZInv other = refl
alike bell bell' a b P name.SqrtX other = refl
alike bell bell' a b P name.SqrtXInv other = refl
alike bell bell' a b P name.SqrtY other = refl
alike bell bell' a b P name.SqrtYInv other = refl
alike bell bell' a b P name.ControlledX other = refl
alike bell bell' a b P name.ControlledZ other = refl
alike bell bell' a b P name.Swap other = refl
alike bell bell' a b P name.PrepareBell other = absurd (other refl)
alike bell bell' a b P name.ControlledY other = refl

-- ---- the operands of a code's gate, in a list

-- the last operand is the second of two, and a gate on one qubit does not look at it
pub last_operand : (bell : ℕ → ℕ → Pauli → Pauli) (g : Gate) (qs : List ℕ) (P : Pauli) → length qs ≡ operands_of g
    → gate_with bell g (get_or qs 0 0) (get_or qs (length qs - 1) 0) P ≡ gate_with bell g (get_or qs 0 0) (get_or qs 1 0) P
unfolding gate_with operands_of
last_operand bell Gate.I qs P e = refl
last_operand bell Gate.X qs P e = refl
last_operand bell Gate.Y qs P e = refl
last_operand bell Gate.Z qs P e = refl
last_operand bell Gate.Hadamard qs P e = refl
last_operand bell Gate.SqrtZ qs P e = refl
last_operand bell Gate.SqrtZInv qs P e = refl
last_operand bell Gate.SqrtX qs P e = refl
last_operand bell Gate.SqrtXInv qs P e = refl
last_operand bell Gate.SqrtY qs P e = refl
last_operand bell Gate.SqrtYInv qs P e = refl
last_operand bell Gate.ControlledX qs P e = rw e
last_operand bell Gate.ControlledZ qs P e = rw e
last_operand bell Gate.Swap qs P e = rw e
last_operand bell Gate.PrepareBell qs P e = rw e
last_operand bell Gate.ControlledY qs P e = rw e

-- each gate has an operand
pub some_operand : (g : Gate) → 0 < operands_of g
unfolding operands_of
some_operand Gate.I = omega arith
some_operand Gate.X = omega arith
some_operand Gate.Y = omega arith
some_operand Gate.Z = omega arith
some_operand Gate.Hadamard = omega arith
some_operand Gate.SqrtZ = omega arith
some_operand Gate.SqrtZInv = omega arith
some_operand Gate.SqrtX = omega arith
some_operand Gate.SqrtXInv = omega arith
some_operand Gate.SqrtY = omega arith
some_operand Gate.SqrtYInv = omega arith
some_operand Gate.ControlledX = omega arith
some_operand Gate.ControlledZ = omega arith
some_operand Gate.Swap = omega arith
some_operand Gate.PrepareBell = omega arith
some_operand Gate.ControlledY = omega arith

module _ (code : ℕ) (qs : List ℕ) (count : length qs ≡ operand_count_of (gate_of code)) where
  -- a code has a gate, and so an operand
  pub has_operand : code ≤ 15 → 0 < length qs
  unfolding operand_count_of operands_of gate_of gate_from gates
  has_operand h = rw count (ltb-true 0 _ (same_at (λ k. ltb 0 (operand_count_of (gate_of k))) (λ _. true) 0 16 refl code (omega arith) (omega arith)))

  pub last_of_code : (bell : ℕ → ℕ → Pauli → Pauli) (P : Pauli)
      → by_gate (gate_with bell) (gate_of code) (get_or qs 0 0) (get_or qs (length qs - 1) 0) P ≡ by_gate (gate_with bell) (gate_of code) (get_or qs 0 0) (get_or qs 1 0) P
  unfolding by_gate operand_count_of
  last_of_code bell P = go (gate_of code) count
    where
      go : (o : Option Gate) → length qs ≡ operand_count_of o
          → by_gate (gate_with bell) o (get_or qs 0 0) (get_or qs (length qs - 1) 0) P ≡ by_gate (gate_with bell) o (get_or qs 0 0) (get_or qs 1 0) P
      go none e = refl
      go (some g) e = last_operand bell g qs P e
