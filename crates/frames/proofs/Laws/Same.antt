-- Paulis that are the same on n qubits: products, phases and commutation do not tell them apart. Assumes nothing.
use Rattle.std.specs.Prelude.{◌≡◌, refl, Bool, true, false, not, ◌&&◌, ℕ, zero, suc, ◌+◌}
use Rattle.std.proofs.Common.{sym, ap, ap₂, ◌∙◌, true≢false}
use Rattle.text.proofs.Laws.Values.{both}
use Rattle.pauli.specs.Bits.{Bits, ◌⊕◌, ◌∩◌, ◌△◌, parity}
use Rattle.pauli.specs.Pauli.{Pauli, ◌∗◌, anticommutes}
use Rattle.pauli.proofs.Laws.F2.{f2, ⊕_self, ⊕_comm}
use Rattle.pauli.proofs.Laws.Group.{∗_comm}
use Rattle.frames.specs.Conjugation.{phase_one, phase, same}

pub equal_bits : (a b : Bool) → not (a ⊕ b) ≡ true → a ≡ b
unfolding ◌⊕◌
equal_bits true true e = refl
equal_bits true false e = absurd (true≢false (sym e))
equal_bits false true e = absurd (true≢false (sym e))
equal_bits false false e = refl

pub same_self : (n : ℕ) (P : Pauli) → same n P P ≡ true
unfolding same
same_self zero P = refl
same_self (suc n) P = ap₂ ◌&&◌ (ap₂ ◌&&◌ (equal (P.x n)) (equal (P.z n))) (same_self n P)
  where
    equal : (a : Bool) → not (a ⊕ a) ≡ true
    equal a = ap not (⊕_self a)

pub same_comm : (n : ℕ) (P Q : Pauli) → same n P Q ≡ same n Q P
unfolding same
same_comm zero P Q = refl
same_comm (suc n) P Q = ap₂ ◌&&◌ (ap₂ ◌&&◌ (ap not (⊕_comm (P.x n) (Q.x n))) (ap not (⊕_comm (P.z n) (Q.z n)))) (same_comm n P Q)

-- a factor can be brought to the other side
pub same_∗ : (n : ℕ) (P Q R : Pauli) → same n (P ∗ Q) R ≡ same n Q (P ∗ R)
unfolding same ◌∗◌ ◌△◌
same_∗ zero P Q R = refl
same_∗ (suc n) P Q R =
    ap₂ ◌&&◌ (ap₂ ◌&&◌ (ap not (moved (P.x n) (Q.x n) (R.x n))) (ap not (moved (P.z n) (Q.z n) (R.z n)))) (same_∗ n P Q R)
  where
    moved : (p q r : Bool) → (p ⊕ q) ⊕ r ≡ q ⊕ (p ⊕ r)
    moved p q r = simp f2

pub same_∗_right : (n : ℕ) (P Q R : Pauli) → same n (Q ∗ P) R ≡ same n Q (R ∗ P)
same_∗_right n P Q R = ap (λ S. same n S R) (∗_comm Q P) ∙ same_∗ n P Q R ∙ ap (same n Q) (∗_comm P R)

record LastBit (n : ℕ) (P R : Pauli) : Type 0 where
  of_x : P.x n ≡ R.x n
  of_z : P.z n ≡ R.z n
  rest : same n P R ≡ true

same_bits : (n : ℕ) (P R : Pauli) → same (suc n) P R ≡ true → LastBit n P R
unfolding same
same_bits n P R e =
    let s = both (not (P.x n ⊕ R.x n) && not (P.z n ⊕ R.z n)) (same n P R) e in
    let t = both (not (P.x n ⊕ R.x n)) (not (P.z n ⊕ R.z n)) s.0 in
    record { of_x = equal_bits _ _ t.0; of_z = equal_bits _ _ t.1; rest = s.1 }

pub phase_same : (n : ℕ) (P Q Q' : Pauli) → same n Q Q' ≡ true → phase n P Q ≡ phase n P Q'
unfolding phase
phase_same zero P Q Q' e = refl
phase_same (suc n) P Q Q' e =
    let b = same_bits n Q Q' e in
    ap₂ ◌+◌ (ap₂ (phase_one (P.x n) (P.z n)) b.of_x b.of_z) (phase_same n P Q Q' b.rest)

pub same_phase : (n : ℕ) (P P' Q : Pauli) → same n P P' ≡ true → phase n P Q ≡ phase n P' Q
unfolding phase
same_phase zero P P' Q e = refl
same_phase (suc n) P P' Q e =
    let b = same_bits n P P' e in
    ap₂ ◌+◌ (ap₂ (λ x z. phase_one x z (Q.x n) (Q.z n)) b.of_x b.of_z) (same_phase n P P' Q b.rest)

parity_same : (n : ℕ) (P P' : Pauli) (s : Bits) → same n P P' ≡ true
    → (parity n (P.x ∩ s) ≡ parity n (P'.x ∩ s)) × (parity n (P.z ∩ s) ≡ parity n (P'.z ∩ s))
unfolding parity ◌∩◌
parity_same zero P P' s e = (refl, refl)
parity_same (suc n) P P' s e =
    let b = same_bits n P P' e in
    let r = parity_same n P P' s b.rest in
    (ap₂ (λ x y. (x && s n) ⊕ y) b.of_x r.0, ap₂ (λ x y. (x && s n) ⊕ y) b.of_z r.1)

pub same_anti : (n : ℕ) (P P' R : Pauli) → same n P P' ≡ true → anticommutes n P R ≡ anticommutes n P' R
unfolding anticommutes
same_anti n P P' R e = ap₂ ◌⊕◌ (parity_same n P P' R.z e).0 (parity_same n P P' R.x e).1
