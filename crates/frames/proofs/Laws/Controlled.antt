-- A controlled Pauli, 1 + C + T - CT: where C and T commute it is a unitary up to a factor and takes a Pauli to what the rule for frames says; where
-- they anticommute it is no unitary. Assumes nothing.
use Rattle.std.specs.Prelude.{◌≡◌, Bool, cond, List, [], ◌∷◌, map, ℕ, ◌+◌}
use Rattle.std.proofs.Math.Path.{refl, sym, ap, ap₂, subst}
use Rattle.std.proofs.Common.{◌∙◌, true≢false, arith}
use Rattle.std.proofs.Math.Bool.{true, false}
use Rattle.pauli.specs.Pauli.{Pauli, identity, ◌∗◌, when, anticommutes}
use Rattle.pauli.proofs.Laws.Pairing.{anti_identity}
use Rattle.pauli.proofs.Laws.Group.{group}
use Rattle.frames.specs.Forward.{controlled_pauli}
use Rattle.frames.specs.Conjugation.{Gaussian, whole, plus, times_I^, phase, Term, Sum, term_product, product, adjoint, same, coefficient_of, phased, controlled_sum, Takes, IsUnitary}
use Rattle.frames.proofs.Laws.Gaussian.{plus_comm, plus_assoc, plus_left_comm, plus_zero, zero_plus, plus_minus}
use Rattle.frames.proofs.Laws.Same.{same_self, same_anti}
use Rattle.frames.proofs.Laws.Terms.{phased_term, phased_term_add, phased_as_term, pauli_⊙, commuting, commuting_left, anticommuting, anticommuting_left, adjoint_⊙, adjoint_pauli, adjoint_minus}
use Rattle.frames.proofs.Laws.Sums.{share, coefficient_∷, Equal, ◌then◌, terms_equal}
use Rattle.frames.proofs.Laws.Takes.{takes_from, phased_⊙}
use Rattle.frames.proofs.Laws.Unitary.{positive_not_zero}
use Rattle.frames.proofs.Laws.Roots.{algebra, share_minus}

-- ---- 1 + C + T - CT

minus_product : (n : ℕ) (C T : Pauli) → phased (2 + phase n C T) (C ∗ T) ≡ phased_term 2 (term_product n (phased 0 C) (phased 0 T))
minus_product n C T = phased_as_term _ (C ∗ T) ∙ sym (phased_term_add 2 (phase n C T) _) ∙ ap (phased_term 2) (sym (phased_as_term _ (C ∗ T)) ∙ sym (pauli_⊙ n C T))

-- four terms can be added in another order
module _ (n : ℕ) (p q r s : Term) where
  pairs_swapped : Equal n (p ∷ q ∷ r ∷ s ∷ []) (r ∷ s ∷ p ∷ q ∷ [])
  unfolding coefficient_of
  pairs_swapped = record { at = λ R. sums _ _ _ _ _ }
    where
      sums : (a b c d z : Gaussian) → plus a (plus b (plus c (plus d z))) ≡ plus c (plus d (plus a (plus b z)))
      sums a b c d z = simp plus_left_comm

  swapped_pairs : Equal n (p ∷ q ∷ r ∷ s ∷ []) (q ∷ p ∷ s ∷ r ∷ [])
  unfolding coefficient_of
  swapped_pairs = record { at = λ R. sums _ _ _ _ _ }
    where
      sums : (a b c d z : Gaussian) → plus a (plus b (plus c (plus d z))) ≡ plus b (plus a (plus d (plus c z)))
      sums a b c d z = simp plus_left_comm

module _ (n : ℕ) (C T : Pauli) (h : anticommutes n T C ≡ false) where
  module _ (Q : Pauli) where
    -- the terms, with C, T and Q in this order
    CQ : Term
    CQ = term_product n (phased 0 C) (phased 0 Q)

    TQ : Term
    TQ = term_product n (phased 0 T) (phased 0 Q)

    minus_CTQ : Term
    minus_CTQ = phased_term 2 (term_product n (phased 0 C) (term_product n (phased 0 T) (phased 0 Q)))

    by_terms : (s : Term) (k : ℕ) (Q' : Pauli) → s ≡ phased k Q'
        → Equal n (phased 0 Q ∷ CQ ∷ TQ ∷ minus_CTQ ∷ []) (product n (s ∷ []) (controlled_sum n C T)) → Takes n (controlled_sum n C T) Q Q'
    unfolding CQ TQ minus_CTQ product
    by_terms s k Q' e f =
        takes_from n (controlled_sum n C T) 0 Q k Q'
        (terms_equal (simp (algebra, minus_product)) then f then terms_equal (ap (λ s. product n (s ∷ []) (controlled_sum n C T)) e))

    both_commute : anticommutes n Q C ≡ false → anticommutes n Q T ≡ false → Takes n (controlled_sum n C T) Q Q
    unfolding CQ TQ minus_CTQ product
    both_commute c t =
        by_terms (phased 0 Q) 0 Q refl (terms_equal (simp (algebra, minus_product, commuting n Q C c, commuting n Q T t, commuting_left n Q C c)))

    C_alone : anticommutes n Q C ≡ true → anticommutes n Q T ≡ false → Takes n (controlled_sum n C T) Q (Q ∗ T)
    unfolding CQ TQ minus_CTQ product
    C_alone c t =
        by_terms (term_product n (phased 0 Q) (phased 0 T)) (phase n Q T) (Q ∗ T) (pauli_⊙ n Q T)
        (pairs_swapped n _ _ _ _
        then terms_equal (simp (algebra, minus_product, commuting_left n T C h, commuting n Q T t, anticommuting n Q C c, anticommuting_left n Q C c)))

    T_alone : anticommutes n Q C ≡ false → anticommutes n Q T ≡ true → Takes n (controlled_sum n C T) Q (Q ∗ C)
    unfolding CQ TQ minus_CTQ product
    T_alone c t =
        by_terms (term_product n (phased 0 Q) (phased 0 C)) (phase n Q C) (Q ∗ C) (pauli_⊙ n Q C)
        (swapped_pairs n _ _ _ _
        then terms_equal (simp (algebra, minus_product, commuting n Q C c, commuting_left n Q C c, anticommuting n Q T t)))

    neither : anticommutes n Q C ≡ true → anticommutes n Q T ≡ true → Takes n (controlled_sum n C T) Q (Q ∗ T ∗ C)
    unfolding CQ TQ minus_CTQ product
    neither c t =
        by_terms (phased_term 2 (term_product n (term_product n (phased 0 Q) (phased 0 T)) (phased 0 C))) _ (Q ∗ T ∗ C) image
        (pairs_swapped n _ _ _ _
        then swapped_pairs n _ _ _ _
        then terms_equal (simp (algebra, minus_product, commuting_left n T C h, anticommuting n Q C c, anticommuting_left n Q C c, anticommuting n Q T t)))
      where
        image : phased_term 2 (term_product n (term_product n (phased 0 Q) (phased 0 T)) (phased 0 C)) ≡ phased (2 + (phase n Q T + (0 + phase n (Q ∗ T) C))) (Q ∗ T ∗ C)
        image =
            ap (phased_term 2) (ap (λ s. term_product n s (phased 0 C)) (pauli_⊙ n Q T) ∙ phased_⊙ n (phase n Q T) 0 (Q ∗ T) C ∙ phased_as_term _ _)
            ∙ phased_term_add 2 _ _
            ∙ sym (phased_as_term _ _)

    pub controlled_takes : Takes n (controlled_sum n C T) Q (controlled_pauli n C T Q)
    unfolding controlled_pauli
    controlled_takes = go (anticommutes n Q C) refl (anticommutes n Q T) refl
      where
        go : (c : Bool) → anticommutes n Q C ≡ c → (t : Bool) → anticommutes n Q T ≡ t → Takes n (controlled_sum n C T) Q (Q ∗ when c T ∗ when t C)
        go true c true t = subst (Takes n (controlled_sum n C T) Q) (simp group) (neither c t)
        go true c false t = subst (Takes n (controlled_sum n C T) Q) (simp group) (C_alone c t)
        go false c true t = subst (Takes n (controlled_sum n C T) Q) (simp group) (T_alone c t)
        go false c false t = subst (Takes n (controlled_sum n C T) Q) (simp group) (both_commute c t)

-- ---- 1 + C + T - CT, times its adjoint

module _ (n : ℕ) (C T : Pauli) where
  CT : Term
  CT = term_product n (phased 0 C) (phased 0 T)

  commuting_terms : anticommutes n T C ≡ false
      → product n (controlled_sum n C T) (adjoint (controlled_sum n C T))
      ≡ phased 0 identity ∷ phased 0 C ∷ phased 0 T ∷ phased_term 2 CT
      ∷ phased 0 C ∷ phased 0 identity ∷ CT ∷ phased_term 2 (phased 0 T)
      ∷ phased 0 T ∷ CT ∷ phased 0 identity ∷ phased_term 2 (phased 0 C)
      ∷ phased_term 2 CT ∷ phased_term 2 (phased 0 T) ∷ phased_term 2 (phased 0 C) ∷ phased 0 identity ∷ []
  unfolding CT product
  commuting_terms h =
      simp (algebra, minus_product, adjoint_pauli, adjoint_minus, adjoint_⊙, commuting n T C h, commuting_left n T C h)

  anticommuting_terms : anticommutes n T C ≡ true
      → product n (controlled_sum n C T) (adjoint (controlled_sum n C T))
      ≡ phased 0 identity ∷ phased 0 C ∷ phased 0 T ∷ CT
      ∷ phased 0 C ∷ phased 0 identity ∷ CT ∷ phased 0 T
      ∷ phased 0 T ∷ phased_term 2 CT ∷ phased 0 identity ∷ phased_term 2 (phased 0 C)
      ∷ phased_term 2 CT ∷ phased 0 T ∷ phased_term 2 (phased 0 C) ∷ phased 0 identity ∷ []
  unfolding CT product
  anticommuting_terms h =
      simp (algebra, minus_product, adjoint_pauli, adjoint_minus, adjoint_⊙, anticommuting n T C h, anticommuting_left n T C h)

-- What the sixteen terms add: a for 1, b for C, c for T, d for CT, and b', c', d' for their negatives.
abbrev total : List Gaussian → Gaussian
total [] = whole 0
total (g ∷ gs) = plus g (total gs)

module _ (a b c d b' c' d' : Gaussian) where
  -- twice a number and its negative
  gone : Gaussian → Gaussian → Gaussian
  gone g g' = plus (plus g g') (plus g g')

  gone_is : (g g' : Gaussian) → plus g g' ≡ whole 0 → gone g g' ≡ whole 0
  unfolding gone
  gone_is g g' e = ap₂ plus e e ∙ zero_plus (whole 0)

  ruleset sums = (plus_assoc, plus_comm, plus_left_comm, zero_plus, plus_zero)

  commuting_sum : plus b b' ≡ whole 0 → plus c c' ≡ whole 0 → plus d d' ≡ whole 0
      → total (a ∷ b ∷ c ∷ d' ∷ b ∷ a ∷ d ∷ c' ∷ c ∷ d ∷ a ∷ b' ∷ d' ∷ c' ∷ b' ∷ a ∷ []) ≡ plus (plus a a) (plus a a)
  commuting_sum eb ec ed =
      gathered ∙ ap (plus (plus (plus a a) (plus a a))) (ap₂ plus (gone_is b b' eb) (ap₂ plus (gone_is c c' ec) (gone_is d d' ed))) ∙ simp plus_zero
    where
      gathered : total (a ∷ b ∷ c ∷ d' ∷ b ∷ a ∷ d ∷ c' ∷ c ∷ d ∷ a ∷ b' ∷ d' ∷ c' ∷ b' ∷ a ∷ [])
          ≡ plus (plus (plus a a) (plus a a)) (plus (gone b b') (plus (gone c c') (gone d d')))
      gathered = unfold gone in simp sums

  anticommuting_sum : plus b b' ≡ whole 0 → plus d d' ≡ whole 0
      → total (a ∷ b ∷ c ∷ d ∷ b ∷ a ∷ d ∷ c ∷ c ∷ d' ∷ a ∷ b' ∷ d' ∷ c ∷ b' ∷ a ∷ [])
      ≡ plus (plus (plus a a) (plus a a)) (plus (plus c c) (plus c c))
  anticommuting_sum eb ed =
      gathered ∙ ap (plus (plus (plus (plus a a) (plus a a)) (plus (plus c c) (plus c c)))) (ap₂ plus (gone_is b b' eb) (gone_is d d' ed)) ∙ simp plus_zero
    where
      gathered : total (a ∷ b ∷ c ∷ d ∷ b ∷ a ∷ d ∷ c ∷ c ∷ d' ∷ a ∷ b' ∷ d' ∷ c ∷ b' ∷ a ∷ [])
          ≡ plus (plus (plus (plus a a) (plus a a)) (plus (plus c c) (plus c c))) (plus (gone b b') (gone d d'))
      gathered = unfold gone in simp sums

coefficient_total : (n : ℕ) (U : Sum) (R : Pauli) → coefficient_of n U R ≡ total (map (λ t. share n t R) U)
unfolding coefficient_of
coefficient_total n [] R = refl
coefficient_total n (t ∷ U) R = coefficient_∷ n t U R ∙ ap (plus (share n t R)) (coefficient_total n U R)

opposite : (n : ℕ) (t : Term) (R : Pauli) → plus (share n t R) (share n (phased_term 2 t) R) ≡ whole 0
opposite n t R = ap (plus (share n t R)) (share_minus n t R) ∙ plus_minus _

-- four times 1, where a Pauli is the same as R
fourfold : Gaussian → Gaussian
fourfold g = plus (plus g g) (plus g g)

fourfold_is : (n : ℕ) (P R : Pauli) → fourfold (share n (phased 0 P) R) ≡ cond (same n P R) (whole 4) (whole 0)
unfolding fourfold share phased times_I^
fourfold_is n P R = go (same n P R)
  where
    go : (b : Bool) → plus (plus (cond b (whole 1) (whole 0)) (cond b (whole 1) (whole 0))) (plus (cond b (whole 1) (whole 0)) (cond b (whole 1) (whole 0))) ≡ cond b (whole 4) (whole 0)
    go true = unfold plus whole in refl
    go false = unfold plus whole in refl

module _ (n : ℕ) (C T : Pauli) where
  pub controlled_unitary : anticommutes n T C ≡ false → IsUnitary n (controlled_sum n C T)
  controlled_unitary h = record { factor = 4; positive = omega arith; equal = coefficients }
    where
      coefficients : (R : Pauli) → coefficient_of n (product n (controlled_sum n C T) (adjoint (controlled_sum n C T))) R ≡ cond (same n identity R) (whole 4) (whole 0)
      coefficients R =
          ap (λ U. coefficient_of n U R) (commuting_terms n C T h)
          ∙ coefficient_total n _ R
          ∙ commuting_sum _ _ _ _ _ _ _ (opposite n (phased 0 C) R) (opposite n (phased 0 T) R) (opposite n (CT n C T) R)
          ∙ unfold fourfold in fourfold_is n identity R

  -- 4 + 4T
  anticommuting_coefficients : anticommutes n T C ≡ true → (R : Pauli)
      → coefficient_of n (product n (controlled_sum n C T) (adjoint (controlled_sum n C T))) R
      ≡ plus (cond (same n identity R) (whole 4) (whole 0)) (cond (same n T R) (whole 4) (whole 0))
  unfolding fourfold
  anticommuting_coefficients h R =
      ap (λ U. coefficient_of n U R) (anticommuting_terms n C T h)
      ∙ coefficient_total n _ R
      ∙ anticommuting_sum _ _ _ _ _ (whole 0) _ (opposite n (phased 0 C) R) (opposite n (CT n C T) R)
      ∙ ap₂ plus (fourfold_is n identity R) (fourfold_is n T R)

  -- no unitary
  pub anticommuting_refused : anticommutes n T C ≡ true → IsUnitary n (controlled_sum n C T) → ⊥
  anticommuting_refused h u = positive_not_zero 4 (omega arith) four_at_T
    where
      not_one : same n identity T ≡ false
      not_one = go (same n identity T) refl
        where
          go : (b : Bool) → same n identity T ≡ b → b ≡ false
          go true e = absurd (true≢false (sym h ∙ sym (same_anti n identity T C e) ∙ anti_identity n C))
          go false e = refl

      at_T : (b c : Bool) → b ≡ false → c ≡ true → plus (cond b (whole 4) (whole 0)) (cond c (whole 4) (whole 0)) ≡ whole 4
      at_T b c p q = ap₂ (λ b c. plus (cond b (whole 4) (whole 0)) (cond c (whole 4) (whole 0))) p q ∙ zero_plus _

      four_at_T : whole 4 ≡ whole 0
      four_at_T =
          sym (anticommuting_coefficients h T ∙ at_T (same n identity T) (same n T T) not_one (same_self n T))
          ∙ u.equal T
          ∙ ap (λ b. cond b (whole u.factor) (whole 0)) not_one
