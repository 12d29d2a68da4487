-- What each gate adds to the parts at its operands. Laws. Assumes nothing.
use Rattle.std.specs.Prelude.{ℕ, ◌≡◌, Bool, true, false, not, ◌&&◌, List, [], ◌∷◌, eqb}
use Rattle.std.proofs.Math.Path.{refl, sym, fun_ext}
use Rattle.std.proofs.Common.{ap, ◌∙◌}
use Rattle.pauli.specs.Bits.{Bits, ◌⊕◌, ◌∩◌, added, outside}
use Rattle.pauli.specs.Pauli.{Pauli, added_at, cleared}
use Rattle.pauli.specs.Gate.{swap_XZ, add_xto_Z, add_zto_X, controlled_X, controlled_Z, controlled_Y, exchanged, swap_rows_of}
use Rattle.pauli.proofs.Laws.F2.{⊕_comm}
use Rattle.pauli.proofs.Laws.Parity.{added_is, exchanged_is, bitwise}
use Rattle.pauli.proofs.Laws.Set.{added_false, replaced_added, cleared_added}
use Rattle.pauli.proofs.Laws.Gates.{pauli_path}

-- ---- cleared qubits

all_outside : (s : Bits) → s ∩ outside [] ≡ s
unfolding ◌∩◌ outside
all_outside s = fun_ext (λ i. go (s i))
  where
    go : (b : Bool) → (b && true) ≡ b
    go true = refl
    go false = refl

pub cleared_none : (P : Pauli) → cleared [] P ≡ P
unfolding cleared
cleared_none P = pauli_path (all_outside P.x) (all_outside P.z)

outside_more : (s : Bits) (q : ℕ) (qs : List ℕ) → s ∩ outside (q ∷ qs) ≡ (s ∩ outside (q ∷ [])) ∩ outside qs
unfolding ◌∩◌ outside
outside_more s q qs = fun_ext (λ i. go (s i) (not (eqb i q)) (outside qs i))
  where
    go : (a b c : Bool) → (a && (b && c)) ≡ ((a && (b && true)) && c)
    go true true c = refl
    go true false c = refl
    go false b c = refl

-- one qubit more
pub cleared_more : (q : ℕ) (P : Pauli) (qs : List ℕ) → cleared (q ∷ qs) P ≡ cleared qs (cleared (q ∷ []) P)
unfolding cleared
cleared_more q P qs = pauli_path (outside_more P.x q qs) (outside_more P.z q qs)

-- ---- at one operand

module _ (q : ℕ) (P : Pauli) where
  pub clear_added : added_at q (P.x q) (P.z q) P ≡ cleared (q ∷ []) P
  unfolding added_at cleared
  clear_added = pauli_path (cleared_added P.x q) (cleared_added P.z q)

  pub swap_added : added_at q (P.x q ⊕ P.z q) (P.x q ⊕ P.z q) P ≡ swap_XZ q P
  unfolding added_at swap_XZ
  swap_added =
      pauli_path (sym (replaced_added P.x q (P.z q))) (ap (added P.z q) (⊕_comm (P.x q) (P.z q)) ∙ sym (replaced_added P.z q (P.x q)))

  pub x_added : added_at q false (P.x q) P ≡ add_xto_Z q P
  unfolding added_at add_xto_Z
  x_added = pauli_path (sym (added_false P.x q)) refl

  pub z_added : added_at q (P.z q) false P ≡ add_zto_X q P
  unfolding added_at add_zto_X
  z_added = pauli_path refl (sym (added_false P.z q))

-- ---- at two operands, first at b

-- what is added at one of them alone
module _ (s : Bits) (a b : ℕ) (t : Bool) where
  at_a : added (added s b false) a t ≡ added s a t
  at_a = ap (λ (u : Bits). added u a t) (sym (added_false s b))

  at_b : added (added s b t) a false ≡ added s b t
  at_b = sym (added_false (added s b t) a)

at_both : (s : Bits) (a b : ℕ) → added (added s b (s a ⊕ s b)) a (s a ⊕ s b) ≡ exchanged a b s
at_both s a b = simp (added_is, exchanged_is) (fun_ext (λ i. simp bitwise))

module _ (a b : ℕ) (P : Pauli) where
  pub controlled_x_added : added_at a false (P.z b) (added_at b (P.x a) false P) ≡ controlled_X a b P
  unfolding added_at controlled_X
  controlled_x_added = pauli_path (at_b P.x a b _) (at_a P.z a b _)

  pub controlled_z_added : added_at a false (P.x b) (added_at b false (P.x a) P) ≡ controlled_Z a b P
  unfolding added_at controlled_Z
  controlled_z_added = pauli_path (at_a P.x a b _ ∙ sym (added_false P.x a)) refl

  pub controlled_y_added : added_at a false (P.x b ⊕ P.z b) (added_at b (P.x a) (P.x a) P) ≡ controlled_Y a b P
  unfolding added_at controlled_Y
  controlled_y_added = pauli_path (at_b P.x a b _) refl

  pub swap_rows_added : added_at a (P.x a ⊕ P.x b) (P.z a ⊕ P.z b) (added_at b (P.x a ⊕ P.x b) (P.z a ⊕ P.z b) P) ≡ swap_rows_of a b P
  unfolding added_at swap_rows_of
  swap_rows_added = pauli_path (at_both P.x a b) (at_both P.z a b)
