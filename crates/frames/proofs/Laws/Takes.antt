-- What a sum takes Paulis to: products go to products, and one sum after another takes a Pauli as the two do. Assumes nothing.
use Rattle.std.specs.Prelude.{◌≡◌, [], ◌∷◌, ℕ, ◌+◌}
use Rattle.std.proofs.Common.{sym, ap, ap₂, ◌∙◌}
use Rattle.pauli.specs.Pauli.{Pauli, ◌∗◌, anticommutes}
use Rattle.frames.specs.Conjugation.{Gaussian, times_I^, phase, Sum, term_product, product, coefficient_of, phased, pauli_sum, Takes}
use Rattle.frames.proofs.Laws.Gaussian.{times_I^_cancel, twice, phases}
use Rattle.frames.proofs.Laws.Terms.{phased_term, phased_term_add, phased_term_comm, phased_term_⊙, ⊙_phasedTerm, phased_as_term, pauli_⊙, swapped}
use Rattle.frames.proofs.Laws.Sums.{Equal, ◌then◌, terms_equal, in_first, in_second, phased_sum, phased_sum_coefficient, product_assoc, phased_sum_product, product_phased_sum}

pub phased_sum_equal : {n : ℕ} {U W : Sum} (k : ℕ) → Equal n U W → Equal n (phased_sum k U) (phased_sum k W)
phased_sum_equal {n} {U} {W} k e = record { at = λ R. phased_sum_coefficient n k U R ∙ ap (times_I^ k) (e.at R) ∙ sym (phased_sum_coefficient n k W R) }

phased_sum_lem : (a k : ℕ) (P : Pauli) → phased_sum a (phased k P ∷ []) ≡ phased (a + k) P ∷ []
phased_sum_lem a k P =
    ap (λ t. t ∷ []) (ap (phased_term a) (phased_as_term k P) ∙ phased_term_add a k (phased 0 P) ∙ sym (phased_as_term (a + k) P))

-- ---- U · Q is i^k Q' · U

module _ (n : ℕ) where
  out : (k : ℕ) (Q : Pauli) (U : Sum) → product n (phased k Q ∷ []) U ≡ phased_sum k (product n (pauli_sum Q) U)
  out k Q U = ap (λ t. product n (t ∷ []) U) (phased_as_term k Q) ∙ phased_sum_product n k (pauli_sum Q) U

  out_right : (k : ℕ) (U : Sum) (Q : Pauli) → product n U (phased k Q ∷ []) ≡ phased_sum k (product n U (pauli_sum Q))
  out_right k U Q = ap (λ t. product n U (t ∷ [])) (phased_as_term k Q) ∙ product_phased_sum n k U (pauli_sum Q)

  pub takes_from : (U : Sum) (j : ℕ) (Q : Pauli) (k : ℕ) (Q' : Pauli) → Equal n (product n U (phased j Q ∷ [])) (product n (phased k Q' ∷ []) U) → Takes n U Q Q'
  takes_from U j Q k Q' e = record { unit = j + j + j + k; equal = λ R. times_I^_cancel j (both R ∙ sym (four (coefficient_of n (product n (pauli_sum Q') U) R))) }
    where
      both : (R : Pauli) → times_I^ j (coefficient_of n (product n U (pauli_sum Q)) R) ≡ times_I^ k (coefficient_of n (product n (pauli_sum Q') U) R)
      both R =
          sym (phased_sum_coefficient n j (product n U (pauli_sum Q)) R)
          ∙ ap (λ W. coefficient_of n W R) (sym (out_right j U Q))
          ∙ e.at R
          ∙ ap (λ W. coefficient_of n W R) (out k Q' U)
          ∙ phased_sum_coefficient n k (product n (pauli_sum Q') U) R

      four : (c : Gaussian) → times_I^ j (times_I^ (j + j + j + k) c) ≡ times_I^ k c
      four c = simp phases

  pub takes_to : {U : Sum} {Q Q' : Pauli} (t : Takes n U Q Q') (a : ℕ)
      → Equal n (product n U (phased a Q ∷ [])) (product n (phased (a + t.unit) Q' ∷ []) U)
  takes_to {U} {Q} {Q'} t a =
      terms_equal (out_right a U Q)
      then phased_sum_equal a (record { at = λ R. t.equal R ∙ sym (phased_sum_coefficient n t.unit (product n (pauli_sum Q') U) R) })
      then terms_equal
      (ap (phased_sum a) (sym (out t.unit Q' U))
      ∙ sym (phased_sum_product n a (phased t.unit Q' ∷ []) U)
      ∙ ap (λ s. product n s U) (phased_sum_lem a t.unit Q'))

  -- first W, then U
  pub product_takes : {U W : Sum} {Q Q₁ Q₂ : Pauli} → Takes n W Q Q₁ → Takes n U Q₁ Q₂ → Takes n (product n U W) Q Q₂
  product_takes {U} {W} {Q} {Q₁} {Q₂} w u =
      takes_from (product n U W) 0 Q (0 + w.unit + u.unit) Q₂
      (terms_equal (product_assoc n U W (pauli_sum Q))
      then in_second U (takes_to w 0)
      then terms_equal (sym (product_assoc n U (phased (0 + w.unit) Q₁ ∷ []) W))
      then in_first W (takes_to u (0 + w.unit))
      then terms_equal (product_assoc n (phased (0 + w.unit + u.unit) Q₂ ∷ []) U W))

  -- ---- a product of two Paulis

  pub pair : {U : Sum} {P P' Q Q' : Pauli} (p : Takes n U P P') (q : Takes n U Q Q')
      → Equal n (product n U (term_product n (phased 0 P) (phased 0 Q) ∷ []))
      (product n (term_product n (phased (0 + p.unit) P') (phased (0 + q.unit) Q') ∷ []) U)
  unfolding product
  pair {U} {P} {P'} {Q} {Q'} p q =
      terms_equal (sym (product_assoc n U (pauli_sum P) (pauli_sum Q)))
      then in_first (pauli_sum Q) (takes_to p 0)
      then terms_equal (product_assoc n (phased (0 + p.unit) P' ∷ []) U (pauli_sum Q))
      then in_second (phased (0 + p.unit) P' ∷ []) (takes_to q 0)
      then terms_equal (sym (product_assoc n (phased (0 + p.unit) P' ∷ []) (phased (0 + q.unit) Q' ∷ []) U))

  pub phased_⊙ : (a b : ℕ) (P Q : Pauli) → term_product n (phased a P) (phased b Q) ≡ phased (a + (b + phase n P Q)) (P ∗ Q)
  phased_⊙ a b P Q =
      ap₂ (term_product n) (phased_as_term a P) (phased_as_term b Q)
      ∙ phased_term_⊙ n a _ _
      ∙ ap (phased_term a) (⊙_phasedTerm n b _ _ ∙ ap (phased_term b) (pauli_⊙ n P Q ∙ phased_as_term (phase n P Q) (P ∗ Q)) ∙ phased_term_add b _ _)
      ∙ phased_term_add a _ _
      ∙ sym (phased_as_term _ (P ∗ Q))

  pub phased_swapped : (a b : ℕ) (P Q : Pauli)
      → term_product n (phased a P) (phased b Q) ≡ phased_term (twice (anticommutes n P Q)) (term_product n (phased b Q) (phased a P))
  phased_swapped a b P Q =
      out_both a b P Q
      ∙ ap (λ t. phased_term a (phased_term b t)) (swapped n P Q)
      ∙ ap (phased_term a) (phased_term_comm b s _)
      ∙ phased_term_comm a s _
      ∙ ap (phased_term s) (phased_term_comm a b _ ∙ sym (out_both b a Q P))
    where
      s : ℕ
      s = twice (anticommutes n P Q)

      out_both : (a b : ℕ) (P Q : Pauli) → term_product n (phased a P) (phased b Q) ≡ phased_term a (phased_term b (term_product n (phased 0 P) (phased 0 Q)))
      out_both a b P Q = ap₂ (term_product n) (phased_as_term a P) (phased_as_term b Q) ∙ phased_term_⊙ n a _ _ ∙ ap (phased_term a) (⊙_phasedTerm n b _ _)

  pub takes_∗ : {U : Sum} {P P' Q Q' : Pauli} → Takes n U P P' → Takes n U Q Q' → Takes n U (P ∗ Q) (P' ∗ Q')
  takes_∗ {U} {P} {P'} {Q} {Q'} p q =
      takes_from U (phase n P Q) (P ∗ Q) (0 + p.unit + (0 + q.unit + phase n P' Q')) (P' ∗ Q')
      (terms_equal (ap (λ t. product n U (t ∷ [])) (sym (pauli_⊙ n P Q)))
      then pair p q
      then terms_equal (ap (λ t. product n (t ∷ []) U) (phased_⊙ (0 + p.unit) (0 + q.unit) P' Q')))
