-- Terms, a coefficient times a Pauli, under their product: it is associative, 1 is its unit, a Pauli's square is 1, and two Paulis in the other
-- order have the sign of their commutation; i and -1 can be taken out, and the adjoint turns a product round. Assumes nothing.
use Rattle.std.specs.Prelude.{◌≡◌, true, false, ℕ, ◌+◌}
use Rattle.std.proofs.Math.Path.{refl, sym, ap, ap₂}
use Rattle.std.proofs.Common.{◌∙◌}
use Rattle.pauli.specs.Pauli.{Pauli, identity, ◌∗◌, anticommutes}
use Rattle.pauli.proofs.Laws.Group.{∗_comm, ∗_assoc, ∗_self, identity_∗, ∗_identity}
use Rattle.frames.specs.Conjugation.{Gaussian, whole, times, complex_conjugate, times_I, times_I^, phase, Term, term_product, adjoint_term, phased}
use Rattle.frames.proofs.Laws.Gaussian.{twice, signed_is, times_I_four, times_I^_comm, times_I^_add, times_I^_zero, times_I^_times, times_times_I^, times_I^_cancel, times_assoc, one_times, times_one, conjugate_times, conjugate_times_I^}
use Rattle.frames.proofs.Laws.Phase.{phase_assoc, phase_swap, phase_self, identity_phase, phase_identity}

pub term_path : {s t : Term} → s.coefficient ≡ t.coefficient → s.pauli ≡ t.pauli → s ≡ t
term_path c p = λ i. record { coefficient = c i; pauli = p i }

-- i to the power k, times a term
unfoldable pub phased_term : ℕ → Term → Term
phased_term k t = record { coefficient = times_I^ k t.coefficient; pauli = t.pauli }

pub phased_term_add : (j k : ℕ) (t : Term) → phased_term j (phased_term k t) ≡ phased_term (j + k) t
unfolding phased_term
phased_term_add j k t = term_path (sym (times_I^_add j k t.coefficient)) refl

pub phased_term_comm : (j k : ℕ) (t : Term) → phased_term j (phased_term k t) ≡ phased_term k (phased_term j t)
unfolding phased_term
phased_term_comm j k t = term_path (times_I^_comm j k t.coefficient) refl

pub phased_term_zero : (t : Term) → phased_term 0 t ≡ t
unfolding phased_term times_I^
phased_term_zero t = refl

pub phased_term_four : (t : Term) → phased_term 4 t ≡ t
unfolding phased_term times_I^
phased_term_four t = term_path (times_I_four t.coefficient) refl

pub phased_as_term : (k : ℕ) (P : Pauli) → phased k P ≡ phased_term k (phased 0 P)
unfolding phased phased_term
phased_as_term k P = term_path (ap (times_I^ k) (sym (times_I^_zero (whole 1)))) refl

module _ (n : ℕ) where
  infixl 45 ◌⊙◌
  abbrev pub ◌⊙◌ : Term → Term → Term
  s ⊙ t = term_product n s t

  pub ⊙_assoc : (s t u : Term) → s ⊙ t ⊙ u ≡ s ⊙ (t ⊙ u)
  unfolding term_product
  ⊙_assoc s t u = term_path coefficients (∗_assoc s.pauli t.pauli u.pauli)
    where
      c : Gaussian
      c = times s.coefficient (times t.coefficient u.coefficient)

      coefficients : times_I^ (phase n (s.pauli ∗ t.pauli) u.pauli) (times (times_I^ (phase n s.pauli t.pauli) (times s.coefficient t.coefficient)) u.coefficient)
          ≡ times_I^ (phase n s.pauli (t.pauli ∗ u.pauli)) (times s.coefficient (times_I^ (phase n t.pauli u.pauli) (times t.coefficient u.coefficient)))
      coefficients =
          ap (times_I^ (phase n (s.pauli ∗ t.pauli) u.pauli))
          (times_I^_times (phase n s.pauli t.pauli) _ _ ∙ ap (times_I^ (phase n s.pauli t.pauli)) (times_assoc _ _ _))
          ∙ phase_assoc n s.pauli t.pauli u.pauli c
          ∙ ap (times_I^ (phase n s.pauli (t.pauli ∗ u.pauli))) (sym (times_times_I^ (phase n t.pauli u.pauli) _ _))

  -- ---- 1

  pub one_⊙ : (t : Term) → phased 0 identity ⊙ t ≡ t
  unfolding term_product phased
  one_⊙ t =
      term_path (ap₂ times_I^ (identity_phase n t.pauli) (ap (λ c. times c t.coefficient) (times_I^_zero (whole 1)) ∙ one_times _) ∙ times_I^_zero _)
      (identity_∗ t.pauli)

  pub ⊙_one : (t : Term) → t ⊙ phased 0 identity ≡ t
  unfolding term_product phased
  ⊙_one t =
      term_path (ap₂ times_I^ (phase_identity n t.pauli) (ap (λ c. times t.coefficient c) (times_I^_zero (whole 1)) ∙ times_one _) ∙ times_I^_zero _)
      (∗_identity t.pauli)

  -- ---- powers of i and signs

  pub phased_term_⊙ : (k : ℕ) (s t : Term) → phased_term k s ⊙ t ≡ phased_term k (s ⊙ t)
  unfolding term_product phased_term
  phased_term_⊙ k s t =
      term_path (ap (times_I^ (phase n s.pauli t.pauli)) (times_I^_times k _ _) ∙ times_I^_comm (phase n s.pauli t.pauli) k _) refl

  pub ⊙_phasedTerm : (k : ℕ) (s t : Term) → s ⊙ phased_term k t ≡ phased_term k (s ⊙ t)
  unfolding term_product phased_term
  ⊙_phasedTerm k s t =
      term_path (ap (times_I^ (phase n s.pauli t.pauli)) (times_times_I^ k _ _) ∙ times_I^_comm (phase n s.pauli t.pauli) k _) refl

  -- ---- Paulis

  pub pauli_⊙ : (P Q : Pauli) → phased 0 P ⊙ phased 0 Q ≡ phased (phase n P Q) (P ∗ Q)
  unfolding term_product phased
  pauli_⊙ P Q = term_path (ap (times_I^ (phase n P Q)) (ap₂ times (times_I^_zero (whole 1)) (times_I^_zero (whole 1)) ∙ times_one (whole 1))) refl

  pub square : (P : Pauli) → phased 0 P ⊙ phased 0 P ≡ phased 0 identity
  square P = pauli_⊙ P P ∙ ap₂ phased (phase_self n P) (∗_self P)

  pub square_left : (P : Pauli) (t : Term) → phased 0 P ⊙ (phased 0 P ⊙ t) ≡ t
  square_left P t = sym (⊙_assoc _ _ t) ∙ ap (λ s. s ⊙ t) (square P) ∙ one_⊙ t

  pub swapped : (P Q : Pauli) → phased 0 P ⊙ phased 0 Q ≡ phased_term (twice (anticommutes n P Q)) (phased 0 Q ⊙ phased 0 P)
  unfolding phased phased_term
  swapped P Q =
      pauli_⊙ P Q
      ∙ term_path (phase_swap n P Q (whole 1) ∙ signed_is (anticommutes n P Q) _) (∗_comm P Q)
      ∙ ap (phased_term (twice (anticommutes n P Q))) (sym (pauli_⊙ Q P))

  pub commuting : (P Q : Pauli) → anticommutes n P Q ≡ false → phased 0 P ⊙ phased 0 Q ≡ phased 0 Q ⊙ phased 0 P
  unfolding twice
  commuting P Q e = swapped P Q ∙ ap (λ b. phased_term (twice b) (phased 0 Q ⊙ phased 0 P)) e ∙ phased_term_zero _

  pub anticommuting : (P Q : Pauli) → anticommutes n P Q ≡ true → phased 0 P ⊙ phased 0 Q ≡ phased_term 2 (phased 0 Q ⊙ phased 0 P)
  unfolding twice
  anticommuting P Q e = swapped P Q ∙ ap (λ b. phased_term (twice b) (phased 0 Q ⊙ phased 0 P)) e

  pub commuting_left : (P Q : Pauli) → anticommutes n P Q ≡ false → (t : Term) → phased 0 P ⊙ (phased 0 Q ⊙ t) ≡ phased 0 Q ⊙ (phased 0 P ⊙ t)
  commuting_left P Q e t = sym (⊙_assoc _ _ t) ∙ ap (λ s. s ⊙ t) (commuting P Q e) ∙ ⊙_assoc _ _ t

  pub anticommuting_left : (P Q : Pauli) → anticommutes n P Q ≡ true → (t : Term)
      → phased 0 P ⊙ (phased 0 Q ⊙ t) ≡ phased_term 2 (phased 0 Q ⊙ (phased 0 P ⊙ t))
  anticommuting_left P Q e t = sym (⊙_assoc _ _ t) ∙ ap (λ s. s ⊙ t) (anticommuting P Q e) ∙ phased_term_⊙ 2 _ t ∙ ap (phased_term 2) (⊙_assoc _ _ t)

  -- ---- the adjoint

  -- P Q Q P is 1
  phase_inverse : (P Q : Pauli) (c : Gaussian) → times_I^ (phase n P Q) (times_I^ (phase n Q P) c) ≡ c
  unfolding phased times_I^ phased_term
  phase_inverse P Q c =
      sym (times_I^_times (phase n P Q) _ c ∙ ap (times_I^ (phase n P Q)) (times_I^_times (phase n Q P) (whole 1) c ∙ ap (times_I^ (phase n Q P)) (one_times c)))
      ∙ ap (λ d. times d c) (ap (λ (t : Term). t.coefficient) four)
      ∙ one_times c
    where
      four : phased_term (phase n P Q) (phased_term (phase n Q P) (phased 0 identity)) ≡ phased 0 identity
      four =
          ap (λ t. phased_term (phase n P Q) (phased_term (phase n Q P) t)) (sym (square (P ∗ Q)))
          ∙ ap (phased_term (phase n P Q)) (sym (⊙_phasedTerm (phase n Q P) _ _))
          ∙ sym (phased_term_⊙ (phase n P Q) _ _)
          ∙ ap₂ ◌⊙◌ (sym (phased_as_term (phase n P Q) (P ∗ Q)) ∙ sym (pauli_⊙ P Q))
          (ap (λ S. phased_term (phase n Q P) (phased 0 S)) (∗_comm P Q) ∙ sym (phased_as_term (phase n Q P) (Q ∗ P)) ∙ sym (pauli_⊙ Q P))
          ∙ ⊙_assoc _ _ _
          ∙ ap (λ t. phased 0 P ⊙ t) (square_left Q (phased 0 P))
          ∙ square P

  pub adjoint_⊙ : (s t : Term) → adjoint_term (s ⊙ t) ≡ adjoint_term t ⊙ adjoint_term s
  unfolding adjoint_term term_product
  adjoint_⊙ s t =
      term_path
      (times_I^_cancel (phase n s.pauli t.pauli)
      (conjugate_times_I^ (phase n s.pauli t.pauli) _ ∙ conjugate_times s.coefficient t.coefficient ∙ sym (phase_inverse s.pauli t.pauli _)))
      (∗_comm s.pauli t.pauli)

pub adjoint_pauli : (P : Pauli) → adjoint_term (phased 0 P) ≡ phased 0 P
unfolding adjoint_term phased complex_conjugate times_I^ whole
adjoint_pauli P = refl

pub adjoint_minus : (t : Term) → adjoint_term (phased_term 2 t) ≡ phased_term 2 (adjoint_term t)
unfolding adjoint_term phased_term complex_conjugate times_I^ times_I
adjoint_minus t = refl
