-- Each gate's row operations, written as products: what is added to the frame, and where. Assumes nothing.
use Rattle.std.specs.Prelude.{◌≡◌, Bool, ℕ}
use Rattle.std.proofs.Common.{◌∙◌}
use Rattle.pauli.specs.Bits.{Bits, ◌⊕◌, ◌△◌, none, given}
use Rattle.pauli.specs.Pauli.{Pauli, X_at, Z_at, Y_at, ◌∗◌, when}
use Rattle.pauli.specs.Gate.{swap_XZ, add_xto_Z, add_zto_X, controlled_X, controlled_Z, controlled_Y, swap_rows_of}
use Rattle.pauli.proofs.Laws.F2.{f2}
use Rattle.pauli.proofs.Laws.Parity.{replaced_is, added_is, △_none, none_△, given_none, given_△, exchanged_is}

pub pauli_path : {P Q : Pauli} → P.x ≡ Q.x → P.z ≡ Q.z → P ≡ Q
pauli_path p q = λ i. record { x = p i; z = q i }

-- the row that a gate leaves alone
kept : (s : Bits) (b : Bool) → s ≡ s △ given b none
kept s b = simp (△_none, given_none)

ruleset rows = (f2, replaced_is, added_is, △_none, none_△, given_none, given_△)

module _ (q : ℕ) (F : Pauli) where
  pub swap_XZ_is : swap_XZ q F ≡ F ∗ when (F.x q ⊕ F.z q) (Y_at q)
  unfolding swap_XZ ◌∗◌ when Y_at
  swap_XZ_is = pauli_path (simp rows) (simp rows)

  pub add_xto_Z_is : add_xto_Z q F ≡ F ∗ when (F.x q) (Z_at q)
  unfolding add_xto_Z ◌∗◌ when Z_at
  add_xto_Z_is = pauli_path (kept F.x (F.x q)) (simp rows)

  pub add_zto_X_is : add_zto_X q F ≡ F ∗ when (F.z q) (X_at q)
  unfolding add_zto_X ◌∗◌ when X_at
  add_zto_X_is = pauli_path (simp rows) (kept F.z (F.z q))

module _ (a b : ℕ) (F : Pauli) where
  pub controlled_X_is : controlled_X a b F ≡ F ∗ when (F.x a) (X_at b) ∗ when (F.z b) (Z_at a)
  unfolding controlled_X ◌∗◌ when X_at Z_at
  controlled_X_is = pauli_path (simp rows) (simp rows)

  pub controlled_Z_is : controlled_Z a b F ≡ F ∗ when (F.x a) (Z_at b) ∗ when (F.x b) (Z_at a)
  unfolding controlled_Z ◌∗◌ when X_at Z_at
  controlled_Z_is = pauli_path (kept F.x (F.x a) ∙ kept _ (F.x b)) (simp rows)

  pub controlled_Y_is : controlled_Y a b F ≡ F ∗ when (F.x a) (Y_at b) ∗ when (F.x b ⊕ F.z b) (Z_at a)
  unfolding controlled_Y ◌∗◌ when Y_at Z_at
  controlled_Y_is = pauli_path (simp rows) (simp rows)

  pub swap_rows_is : swap_rows_of a b F ≡ F ∗ when (F.x a ⊕ F.x b) (X_at a ∗ X_at b) ∗ when (F.z a ⊕ F.z b) (Z_at a ∗ Z_at b)
  unfolding swap_rows_of ◌∗◌ when X_at Z_at
  swap_rows_is = pauli_path (simp (rows, exchanged_is)) (simp (rows, exchanged_is))
