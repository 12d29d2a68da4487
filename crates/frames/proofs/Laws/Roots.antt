-- A Pauli, and 1 + i^k P for odd k: exponentials and the gates SqrtP with their inverses. Each is a unitary up to a factor, and it takes a Pauli to what
-- the rule for frames says. Assumes nothing.
use Rattle.std.specs.Prelude.{◌≡◌, Bool, cond, [], ◌∷◌, ℕ, ◌+◌}
use Rattle.std.proofs.Math.Path.{refl, sym, ap, subst}
use Rattle.std.proofs.Common.{ap₂, ◌∙◌, arith}
use Rattle.std.proofs.Math.Bool.{true, false}
use Rattle.pauli.specs.Pauli.{Pauli, identity, ◌∗◌, when, anticommutes}
use Rattle.pauli.proofs.Laws.Group.{group, ∗_comm}
use Rattle.frames.specs.Forward.{exponentiate}
use Rattle.frames.specs.Conjugation.{Gaussian, whole, plus, times_I, times_I^, phase, Term, Sum, term_product, product, complex_conjugate, adjoint_term, adjoint, same, coefficient_of, phased, pauli_sum, exponential_sum, sqrt_sum, Takes, IsUnitary}
use Rattle.frames.proofs.Laws.Gaussian.{plus_comm, plus_assoc, plus_left_comm, plus_zero, zero_plus, plus_minus, signed, times_I^_of_zero, times_I^_two, twice}
use Rattle.frames.proofs.Laws.Terms.{phased_term, phased_term_add, phased_term_comm, phased_term_zero, phased_term_four, phased_as_term, ⊙_assoc, one_⊙, ⊙_one, phased_term_⊙, ⊙_phasedTerm, pauli_⊙, square, square_left, swapped, commuting, anticommuting, adjoint_pauli}
use Rattle.frames.proofs.Laws.Sums.{share, Equal, ◌then◌, terms_equal}
use Rattle.frames.proofs.Laws.Takes.{takes_from}

-- Sorts a product of terms.
pub ruleset algebra = (⊙_assoc, one_⊙, ⊙_one, phased_term_⊙, ⊙_phasedTerm, phased_term_add, phased_term_zero, phased_term_four, square, square_left)

-- ---- a Pauli

module _ (n : ℕ) (P : Pauli) where
  pub pauli_takes : (Q : Pauli) → Takes n (pauli_sum P) Q Q
  unfolding product
  pauli_takes Q =
      takes_from n (pauli_sum P) 0 Q (twice (anticommutes n P Q)) Q
      (terms_equal
      (ap (λ t. t ∷ []) (swapped n P Q ∙ sym (phased_term_⊙ n (twice (anticommutes n P Q)) _ _) ∙ ap (λ t. term_product n t (phased 0 P)) (sym (phased_as_term _ Q)))))

  pub pauli_unitary : IsUnitary n (pauli_sum P)
  unfolding product
  pauli_unitary = record { factor = 1; positive = omega arith; equal = λ R. ap (λ t. coefficient_of n (t ∷ []) R) to_one ∙ at_one R }
    where
      to_one : term_product n (phased 0 P) (adjoint_term (phased 0 P)) ≡ phased 0 identity
      to_one = ap (term_product n (phased 0 P)) (adjoint_pauli P) ∙ square n P

      at_one : (R : Pauli) → coefficient_of n (phased 0 identity ∷ []) R ≡ cond (same n identity R) (whole 1) (whole 0)
      at_one R = unfold coefficient_of phased times_I^ in plus_zero _

-- ---- 1 + i^k P, k odd

swap_two : (n : ℕ) (s t : Term) → Equal n (s ∷ t ∷ []) (t ∷ s ∷ [])
unfolding coefficient_of
swap_two n s t = record { at = λ R. plus_left_comm _ _ _ }

-- what -t adds
pub share_minus : (n : ℕ) (t : Term) (R : Pauli) → share n (phased_term 2 t) R ≡ signed true (share n t R)
unfolding share phased_term
share_minus n t R = go (same n t.pauli R)
  where
    go : (b : Bool) → cond b (times_I^ 2 t.coefficient) (whole 0) ≡ signed true (cond b t.coefficient (whole 0))
    go true = times_I^_two _
    go false = sym (times_I^_of_zero 2) ∙ times_I^_two _

-- 1 as a term adds 1 to the coefficient of 1
share_one : (n : ℕ) (R : Pauli) → share n (phased 0 identity) R ≡ cond (same n identity R) (whole 1) (whole 0)
unfolding share phased times_I^
share_one n R = refl

four_terms : (n : ℕ) (s t u w : Term) (R : Pauli)
    → coefficient_of n (s ∷ t ∷ u ∷ w ∷ []) R ≡ plus (share n s R) (plus (share n t R) (plus (share n u R) (plus (share n w R) (whole 0))))
unfolding coefficient_of share
four_terms n s t u w R = refl

doubled : (n : ℕ) (R : Pauli) → plus (share n (phased 0 identity) R) (share n (phased 0 identity) R) ≡ cond (same n identity R) (whole 2) (whole 0)
doubled n R = rw (share_one n R) (go (same n identity R))
  where
    go : (b : Bool) → plus (cond b (whole 1) (whole 0)) (cond b (whole 1) (whole 0)) ≡ cond b (whole 2) (whole 0)
    go true = unfold plus whole in refl
    go false = zero_plus (whole 0)

module _ (n k : ℕ) (four : (t : Term) → phased_term (k + (k + 2)) t ≡ t) (P : Pauli) where
  root_sum : Sum
  root_sum = phased 0 identity ∷ phased k P ∷ []

  module _ (Q : Pauli) where
    root_kept : anticommutes n Q P ≡ false → Takes n root_sum Q Q
    unfolding product root_sum
    root_kept e = takes_from n root_sum 0 Q 0 Q (terms_equal (simp (algebra, phased_as_term k P, commuting n Q P e)))

    root_moved : anticommutes n Q P ≡ true → Takes n root_sum Q (Q ∗ P)
    unfolding product root_sum
    root_moved e =
        takes_from n root_sum 0 Q (k + phase n P Q) (Q ∗ P)
        (terms_equal (simp (algebra, phased_as_term k P))
        then swap_two n (phased 0 Q) (phased_term k (term_product n (phased 0 P) (phased 0 Q)))
        then terms_equal (sym (ap (λ t. product n (t ∷ []) root_sum) image ∙ simp (algebra, phased_as_term k P, four, anticommuting n Q P e))))
      where
        image : phased (k + phase n P Q) (Q ∗ P) ≡ phased_term k (term_product n (phased 0 P) (phased 0 Q))
        image =
            ap (phased (k + phase n P Q)) (∗_comm Q P)
            ∙ phased_as_term _ (P ∗ Q)
            ∙ sym (phased_term_add k (phase n P Q) _)
            ∙ ap (phased_term k) (sym (phased_as_term _ (P ∗ Q)) ∙ sym (pauli_⊙ n P Q))

    root_takes : Takes n root_sum Q (exponentiate n P Q)
    unfolding exponentiate
    root_takes = go (anticommutes n Q P) refl
      where
        go : (b : Bool) → anticommutes n Q P ≡ b → Takes n root_sum Q (Q ∗ when b P)
        go true e = subst (Takes n root_sum Q) (simp group) (root_moved e)
        go false e = subst (Takes n root_sum Q) (simp group) (root_kept e)

  root_unitary : adjoint_term (phased_term k (phased 0 P)) ≡ phased_term (k + 2) (phased 0 P) → IsUnitary n root_sum
  unfolding product root_sum
  root_unitary e = record { factor = 2; positive = omega arith; equal = λ R. ap (λ U. coefficient_of n U R) terms ∙ sum R }
    where
      i_P : Term
      i_P = phased_term k (phased 0 P)

      terms : product n root_sum (adjoint root_sum) ≡ phased 0 identity ∷ phased_term (k + 2) (phased 0 P) ∷ i_P ∷ phased 0 identity ∷ []
      terms = simp (algebra, adjoint_pauli, phased_as_term k P, e, four)

      opposite : (R : Pauli) → share n (phased_term (k + 2) (phased 0 P)) R ≡ signed true (share n i_P R)
      opposite R = ap (λ t. share n t R) (sym (phased_term_add k 2 _) ∙ phased_term_comm k 2 _) ∙ share_minus n i_P R

      cancelled : (o x : Gaussian) → plus o (plus (signed true x) (plus x (plus o (whole 0)))) ≡ plus o o
      cancelled o x =
          ap (plus o)
          (sym (plus_assoc _ _ _) ∙ ap₂ plus (plus_comm (signed true x) x ∙ plus_minus x) (plus_zero o) ∙ zero_plus o)

      sum : (R : Pauli) → coefficient_of n (phased 0 identity ∷ phased_term (k + 2) (phased 0 P) ∷ i_P ∷ phased 0 identity ∷ []) R ≡ cond (same n identity R) (whole 2) (whole 0)
      sum R =
          four_terms n _ _ _ _ R
          ∙ ap (λ x. plus (share n (phased 0 identity) R) (plus x (plus (share n i_P R) (plus (share n (phased 0 identity) R) (whole 0))))) (opposite R)
          ∙ cancelled _ _
          ∙ doubled n R

phased_term_eight : (t : Term) → phased_term 8 t ≡ t
phased_term_eight t = sym (phased_term_add 4 4 t) ∙ phased_term_four _ ∙ phased_term_four t

module _ (n : ℕ) (P : Pauli) where
  pub exponential_takes : (Q : Pauli) → Takes n (exponential_sum P) Q (exponentiate n P Q)
  unfolding root_sum
  exponential_takes = root_takes n 1 phased_term_four P

  pub sqrt_takes : (Q : Pauli) → Takes n (sqrt_sum P) Q (exponentiate n P Q)
  unfolding root_sum
  sqrt_takes = root_takes n 3 phased_term_eight P

  pub exponential_unitary : IsUnitary n (exponential_sum P)
  unfolding root_sum adjoint_term phased phased_term complex_conjugate times_I^ times_I whole
  exponential_unitary = root_unitary n 1 phased_term_four P refl

  pub sqrt_unitary : IsUnitary n (sqrt_sum P)
  unfolding root_sum adjoint_term phased phased_term complex_conjugate times_I^ times_I whole
  sqrt_unitary = root_unitary n 3 phased_term_eight P refl
