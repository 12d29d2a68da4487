-- The phase of a product of Paulis: it is associative, 1 for a square, and the other way round it has the sign of the commutation.
-- By the sign of a product in the order X then Z. Assumes nothing.
use Rattle.std.specs.Prelude.{◌≡◌, Bool, ◌&&◌, cond, ℕ, zero, suc, ◌+◌}
use Rattle.std.proofs.Math.Path.{refl, ap}
use Rattle.std.proofs.Common.{sym, ap₂, ◌∙◌, zero-add}
use Rattle.std.proofs.Math.Bool.{true, false}
use Rattle.pauli.specs.Bits.{none, ◌⊕◌, ◌∩◌, ◌△◌, parity}
use Rattle.pauli.specs.Pauli.{Pauli, identity, ◌∗◌, anticommutes}
use Rattle.pauli.proofs.Laws.F2.{f2}
use Rattle.pauli.proofs.Laws.Parity.{parity_comm, parity_△, parity_△_right}
use Rattle.pauli.proofs.Laws.Group.{∗_comm, ∗_assoc}
use Rattle.frames.specs.Conjugation.{Gaussian, times_I^, phase_one, phase}
use Rattle.frames.proofs.Laws.Gaussian.{signed, signed_false, phases, times_I^_signed, times_I^_comm, times_I^_add, times_I^_cancel, times_I_four}

-- the number of Y's, on one qubit and on n
unfoldable ys_one : Bool → Bool → ℕ
ys_one x z = cond (x && z) 1 0

unfoldable ys : ℕ → Pauli → ℕ
ys zero P = 0
ys (suc n) P = ys_one (P.x n) (P.z n) + ys n P

-- Z parts of the first on X parts of the second: the sign of bringing the product's X before its Z
unfoldable overlap : ℕ → Pauli → Pauli → Bool
overlap n P Q = parity n (P.z ∩ Q.x)

phase_one_lem : (x z u v : Bool) (c : Gaussian)
    → times_I^ (ys_one (x ⊕ u) (z ⊕ v)) (times_I^ (phase_one x z u v) c) ≡ signed (z && u) (times_I^ (ys_one x z) (times_I^ (ys_one u v) c))
unfolding ys_one phase_one times_I^ signed ◌⊕◌
phase_one_lem false false u v c = refl
phase_one_lem true false false false c = refl
phase_one_lem true false true false c = refl
phase_one_lem true false true true c = refl
phase_one_lem true false false true c = times_I_four c
phase_one_lem true true false false c = refl
phase_one_lem true true true true c = sym (times_I_four c)
phase_one_lem true true false true c = refl
phase_one_lem true true true false c = refl
phase_one_lem false true false false c = refl
phase_one_lem false true false true c = refl
phase_one_lem false true true false c = refl
phase_one_lem false true true true c = refl

phase_suc : (y p a b : ℕ) (Y Ph A B : ℕ) (s t : Bool) (c : Gaussian)
    → ((d : Gaussian) → times_I^ y (times_I^ p d) ≡ signed s (times_I^ a (times_I^ b d)))
    → times_I^ Y (times_I^ Ph c) ≡ signed t (times_I^ A (times_I^ B c))
    → times_I^ (y + Y) (times_I^ (p + Ph) c) ≡ signed (s ⊕ t) (times_I^ (a + A) (times_I^ (b + B) c))
phase_suc y p a b Y Ph A B s t c here rest =
    times_I^_add y Y _
    ∙ ap (times_I^ y) (ap (times_I^ Y) (times_I^_add p Ph c) ∙ times_I^_comm Y p _)
    ∙ here _
    ∙ ap (λ d. signed s (times_I^ a (times_I^ b d))) rest
    ∙ simp phases

-- With Y = iXZ: the product of X^x Z^z and X^u Z^v has the sign of the overlap.
phase_law : (n : ℕ) (P Q : Pauli) (c : Gaussian)
    → times_I^ (ys n (P ∗ Q)) (times_I^ (phase n P Q) c) ≡ signed (overlap n P Q) (times_I^ (ys n P) (times_I^ (ys n Q) c))
unfolding ys phase overlap parity ◌∩◌ ◌∗◌ ◌△◌
phase_law zero P Q c = sym (signed_false _)
phase_law (suc n) P Q c = phase_suc _ _ _ _ _ _ _ _ _ _ c (phase_one_lem (P.x n) (P.z n) (Q.x n) (Q.z n)) (phase_law n P Q c)

module _ (n : ℕ) where
  overlap_∗ : (P Q R : Pauli) → overlap n (P ∗ Q) R ≡ overlap n P R ⊕ overlap n Q R
  unfolding overlap ◌∗◌
  overlap_∗ P Q R = parity_△ n P.z Q.z R.x

  overlap_∗_right : (R P Q : Pauli) → overlap n R (P ∗ Q) ≡ overlap n R P ⊕ overlap n R Q
  unfolding overlap ◌∗◌
  overlap_∗_right R P Q = parity_△_right n R.z P.x Q.x

  -- the other way round the sign differs where the two anticommute
  overlap_swap : (P Q : Pauli) → overlap n P Q ≡ anticommutes n P Q ⊕ overlap n Q P
  unfolding overlap anticommutes
  overlap_swap P Q = simp (f2, parity_comm n Q.z P.x)

  -- ---- what the rest uses

  module _ (P Q R : Pauli) (c : Gaussian) where
    -- three factors in the order X then Z
    sorted : Gaussian
    sorted = signed (overlap n P Q ⊕ overlap n P R ⊕ overlap n Q R) (times_I^ (ys n P) (times_I^ (ys n Q) (times_I^ (ys n R) c)))

    assoc_left : times_I^ (ys n (P ∗ Q ∗ R)) (times_I^ (phase n (P ∗ Q) R) (times_I^ (phase n P Q) c)) ≡ sorted
    unfolding sorted
    assoc_left =
        phase_law n (P ∗ Q) R _
        ∙ ap (signed (overlap n (P ∗ Q) R)) (times_I^_comm (ys n (P ∗ Q)) (ys n R) _ ∙ ap (times_I^ (ys n R)) (phase_law n P Q c))
        ∙ simp (phases, overlap_∗)

    assoc_right : times_I^ (ys n (P ∗ (Q ∗ R))) (times_I^ (phase n P (Q ∗ R)) (times_I^ (phase n Q R) c)) ≡ sorted
    unfolding sorted
    assoc_right =
        phase_law n P (Q ∗ R) _
        ∙ ap (λ d. signed (overlap n P (Q ∗ R)) (times_I^ (ys n P) d)) (phase_law n Q R c)
        ∙ simp (phases, overlap_∗_right)

    pub phase_assoc : times_I^ (phase n (P ∗ Q) R) (times_I^ (phase n P Q) c) ≡ times_I^ (phase n P (Q ∗ R)) (times_I^ (phase n Q R) c)
    phase_assoc =
        times_I^_cancel (ys n (P ∗ Q ∗ R))
        (assoc_left ∙ sym assoc_right ∙ ap (λ S. times_I^ (ys n S) (times_I^ (phase n P (Q ∗ R)) (times_I^ (phase n Q R) c))) (sym (∗_assoc P Q R)))

  pub phase_swap : (P Q : Pauli) (c : Gaussian) → times_I^ (phase n P Q) c ≡ signed (anticommutes n P Q) (times_I^ (phase n Q P) c)
  phase_swap P Q c = times_I^_cancel (ys n (P ∗ Q)) (phase_law n P Q c ∙ sym other)
    where
      other : times_I^ (ys n (P ∗ Q)) (signed (anticommutes n P Q) (times_I^ (phase n Q P) c)) ≡ signed (overlap n P Q) (times_I^ (ys n P) (times_I^ (ys n Q) c))
      other =
          times_I^_signed (ys n (P ∗ Q)) (anticommutes n P Q) _
          ∙ ap (signed (anticommutes n P Q)) (ap (λ S. times_I^ (ys n S) (times_I^ (phase n Q P) c)) (∗_comm P Q) ∙ phase_law n Q P c)
          ∙ simp (phases, overlap_swap P Q)

pub phase_self : (n : ℕ) (P : Pauli) → phase n P P ≡ 0
unfolding phase
phase_self zero P = refl
phase_self (suc n) P = ap₂ ◌+◌ (square (P.x n) (P.z n)) (phase_self n P)
  where
    square : (x z : Bool) → phase_one x z x z ≡ 0
    square true true = unfold phase_one in refl
    square true false = unfold phase_one in refl
    square false true = unfold phase_one in refl
    square false false = unfold phase_one in refl

pub identity_phase : (n : ℕ) (P : Pauli) → phase n identity P ≡ 0
unfolding phase phase_one identity none
identity_phase zero P = refl
identity_phase (suc n) P = zero-add _ ∙ identity_phase n P

pub phase_identity : (n : ℕ) (P : Pauli) → phase n P identity ≡ 0
unfolding phase identity none
phase_identity zero P = refl
phase_identity (suc n) P = ap₂ ◌+◌ (by_identity (P.x n) (P.z n)) (phase_identity n P)
  where
    by_identity : (x z : Bool) → phase_one x z false false ≡ 0
    by_identity true true = unfold phase_one in refl
    by_identity true false = unfold phase_one in refl
    by_identity false true = unfold phase_one in refl
    by_identity false false = unfold phase_one in refl
