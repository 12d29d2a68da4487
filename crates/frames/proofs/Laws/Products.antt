-- Products of Paulis as sums of one term: 1 changes nothing, a square is 1, two Paulis in the other order have the sign of their commutation, Paulis on
-- different qubits have no phase, and Y is iXZ. Assumes nothing.
use Rattle.std.specs.Prelude.{◌≡◌, Bool, true, false, ◌&&◌, ◌||◌}
use Rattle.std.proofs.Math.Path.{refl, sym, ap, ap₂}
use Rattle.std.proofs.Common.{◌∙◌, true≢false, not-suc-le-zero, arith}
use mathlib.Core.List.{[], ◌∷◌}
use Prim.Native.Nat.{ℕ, zero, suc, ◌+◌, ◌<◌}
use Rattle.std.proofs.Math.Nat.{add-zero, zero-add}
use Rattle.std.proofs.Math.Decide.{ℕ_discrete}
use Rattle.pauli.specs.Bits.{none}
use Rattle.pauli.specs.Pauli.{Pauli, identity, X_at, Y_at, Z_at, ◌∗◌, anticommutes}
use Rattle.pauli.proofs.Laws.Parity.{only_here, only_off}
use Rattle.pauli.proofs.Laws.Group.{X_Z}
use Rattle.frames.specs.Conjugation.{phase_one, phase, Sum, term_product, product, phased, pauli_sum}
use Rattle.frames.proofs.Laws.Gaussian.{twice}
use Rattle.frames.proofs.Laws.Terms.{phased_term, phased_term_add, phased_term_four, phased_as_term, one_⊙, ⊙_one, phased_term_⊙, pauli_⊙, square, swapped}

-- ---- phases by the qubits

-- both have a part on qubit i
abbrev pub meet : Pauli → Pauli → ℕ → Bool
meet P Q i = (P.x i || P.z i) && (Q.x i || Q.z i)

one_apart : (x z u v : Bool) → (x || z) && (u || v) ≡ false → phase_one x z u v ≡ 0
unfolding phase_one
one_apart false false u v e = refl
one_apart true false false false e = refl
one_apart true true false false e = refl
one_apart false true false false e = refl
one_apart true false true false e = refl
one_apart true true true true e = refl
one_apart false true false true e = refl
one_apart true false true true e = absurd (true≢false e)
one_apart true false false true e = absurd (true≢false e)
one_apart true true false true e = absurd (true≢false e)
one_apart true true true false e = absurd (true≢false e)
one_apart false true true false e = absurd (true≢false e)
one_apart false true true true e = absurd (true≢false e)

pub phase_apart : (n : ℕ) (P Q : Pauli) → ((i : ℕ) → i < n → meet P Q i ≡ false) → phase n P Q ≡ 0
unfolding phase
phase_apart zero P Q h = refl
phase_apart (suc n) P Q h = ap₂ ◌+◌ (one_apart _ _ _ _ (h n (omega arith))) (phase_apart n P Q (λ i g. h i (omega (arith, g))))

-- two that meet on one qubit at most
phase_at : (n q : ℕ) (P Q : Pauli) → q < n → ((i : ℕ) → (i ≡ q → ⊥) → meet P Q i ≡ false) → phase n P Q ≡ phase_one (P.x q) (P.z q) (Q.x q) (Q.z q)
phase_at zero q P Q h off = absurd (not-suc-le-zero h)
phase_at (suc n) q P Q h off = step (ℕ_discrete n q) (phase_at n q P Q)
  where
    here : ℕ → ℕ
    here i = phase_one (P.x i) (P.z i) (Q.x i) (Q.z i)

    step : Dec (n ≡ q) → (q < n → ((i : ℕ) → (i ≡ q → ⊥) → meet P Q i ≡ false) → phase n P Q ≡ here q) → phase (suc n) P Q ≡ here q
    step (yes e) ih = unfold phase in (ap₂ ◌+◌ (ap here e) (phase_apart n P Q (λ i g. off i (λ (p : i ≡ q). omega (arith, e)))) ∙ add-zero _)
    step (no ne) ih = unfold phase in (ap₂ ◌+◌ (one_apart _ _ _ _ (off n ne)) (ih (omega (arith, ne)) off) ∙ zero-add _)

-- ---- sums of one term

module _ (n : ℕ) where
  pub one_product : (U : Sum) → product n (pauli_sum identity) U ≡ U
  unfolding product
  one_product [] = refl
  one_product (t ∷ U) = ap₂ ◌∷◌ (one_⊙ n t) (one_product U)

  pub product_one : (U : Sum) → product n U (pauli_sum identity) ≡ U
  unfolding product
  product_one [] = refl
  product_one (t ∷ U) = ap₂ ◌∷◌ (⊙_one n t) (product_one U)

  pub pauli_square : (P : Pauli) → product n (pauli_sum P) (pauli_sum P) ≡ pauli_sum identity
  unfolding product
  pauli_square P = ap (λ t. t ∷ []) (square n P)

  pub pauli_swap : (P Q : Pauli) → product n (pauli_sum P) (pauli_sum Q) ≡ product n (phased (twice (anticommutes n P Q)) Q ∷ []) (pauli_sum P)
  unfolding product
  pauli_swap P Q =
      ap (λ t. t ∷ [])
      (swapped n P Q ∙ sym (phased_term_⊙ n (twice (anticommutes n P Q)) _ _) ∙ ap (λ t. term_product n t (phased 0 P)) (sym (phased_as_term _ Q)))

  pub apart_product : (P Q : Pauli) → ((i : ℕ) → i < n → meet P Q i ≡ false) → product n (pauli_sum P) (pauli_sum Q) ≡ pauli_sum (P ∗ Q)
  unfolding product
  apart_product P Q h = ap (λ t. t ∷ []) (pauli_⊙ n P Q ∙ ap (λ k. phased k (P ∗ Q)) (phase_apart n P Q h))

  phase_XZ : (q : ℕ) → q < n → phase n (X_at q) (Z_at q) ≡ 3
  unfolding X_at Z_at none phase_one
  phase_XZ q h = phase_at n q (X_at q) (Z_at q) h (λ i ne. rw (only_off q i ne)) ∙ rw (only_here q)

  pub Y_is_iXZ : (q : ℕ) → q < n → pauli_sum (Y_at q) ≡ product n (phased 1 (X_at q) ∷ []) (pauli_sum (Z_at q))
  unfolding product
  Y_is_iXZ q h = ap (λ t. t ∷ []) (sym turned)
    where
      turned : term_product n (phased 1 (X_at q)) (phased 0 (Z_at q)) ≡ phased 0 (Y_at q)
      turned =
          ap (λ t. term_product n t (phased 0 (Z_at q))) (phased_as_term 1 (X_at q))
          ∙ phased_term_⊙ n 1 _ _
          ∙ ap (phased_term 1) (pauli_⊙ n (X_at q) (Z_at q) ∙ ap₂ phased (phase_XZ q h) (X_Z q) ∙ phased_as_term 3 (Y_at q))
          ∙ phased_term_add 1 3 _
          ∙ phased_term_four _
