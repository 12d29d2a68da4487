-- A sum that is a unitary up to a factor: what it takes a Pauli to is determined on the n qubits, and commutation is kept; a product of two
-- unitaries is one. Assumes nothing.
use Rattle.std.specs.Prelude.{◌≡◌, Bool, true, false, cond, ℕ, zero, suc, ◌+◌, ◌*◌, ◌<◌, pos, nat_abs, ◌+ℤ◌}
use Rattle.std.proofs.Math.Path.{refl, sym, ap, ap₂}
use Rattle.std.proofs.Common.{◌∙◌, arith}
use mathlib.Core.List.{[], ◌∷◌, map}
use Rattle.std.proofs.Math.IntN.{pos-ne-negsuc, +ℤ_idr, *ℤ-zero, zero-*ℤ}
use Rattle.pauli.specs.Pauli.{Pauli, identity, ◌∗◌, anticommutes}
use Rattle.pauli.proofs.Laws.Group.{∗_comm, ∗_self, ∗_identity}
use Rattle.frames.specs.Conjugation.{Gaussian, whole, times, times_I, times_I^, phase, Term, Sum, term_product, product, adjoint, same, coefficient_of, phased, Takes, IsUnitary}
use Rattle.frames.proofs.Laws.Gaussian.{gaussian_path, plus_zero, times_comm, one_times, times_I^_zero, times_I^_of_zero, times_I^_times, times_I^_comm, times_I^_cancel, twice}
use Rattle.frames.proofs.Laws.Phase.{phase_identity, identity_phase}
use Rattle.frames.proofs.Laws.Same.{same_self, same_comm, same_∗}
use Rattle.frames.proofs.Laws.Terms.{term_path, phased_term, swapped}
use Rattle.frames.proofs.Laws.Sums.{++_nil, on_left, map_left, Equal, ◌then◌, back, terms_equal, in_first, in_second, phased_sum, phased_sum_coefficient, product_assoc, phased_sum_product, product_phased_sum, adjoint_product}
use Rattle.frames.proofs.Laws.Takes.{phased_sum_equal, takes_to, pair, phased_⊙, phased_swapped}

pub positive_not_zero : (m : ℕ) → 0 < m → whole m ≡ whole 0 → ⊥
unfolding whole
positive_not_zero m h e = omega (arith, h, size_path e)
  where
    size : Gaussian → ℕ
    size c = nat_abs c.re

    size_path : whole m ≡ whole 0 → m ≡ 0
    size_path e = ap size e

-- a positive number is not its own negative
positive_not_minus : (m : ℕ) → 0 < m → whole m ≡ times_I^ 2 (whole m) → ⊥
unfolding whole times_I^ times_I
positive_not_minus zero h e = omega (arith, h)
positive_not_minus (suc m) h e = pos-ne-negsuc (suc m) m (ap (λ (c : Gaussian). c.re) e)

sign_unique : (m : ℕ) → 0 < m → (a b : Bool) → times_I^ (twice a) (whole m) ≡ times_I^ (twice b) (whole m) → a ≡ b
unfolding twice
sign_unique m h true true e = refl
sign_unique m h true false e = absurd (positive_not_minus m h (sym (e ∙ times_I^_zero _)))
sign_unique m h false true e = absurd (positive_not_minus m h (sym (times_I^_zero _) ∙ e))
sign_unique m h false false e = refl

module _ {n : ℕ} {U : Sum} (u : IsUnitary n U) where
  -- i^k P · U, times the adjoint of U, is a number times i^k P
  unitary_at : (k : ℕ) (P R : Pauli) → coefficient_of n (product n (product n (phased k P ∷ []) U) (adjoint U)) R
      ≡ times_I^ k (times_I^ (phase n P (P ∗ R)) (cond (same n P R) (whole u.factor) (whole 0)))
  unitary_at k P R =
      ap (λ W. coefficient_of n W R) (product_assoc n (phased k P ∷ []) U (adjoint U) ∙ one_term)
      ∙ map_left n (phased k P) (product n U (adjoint U)) R
      ∙ step
      ∙ ap (λ b. times_I^ k (times_I^ (phase n P (P ∗ R)) (cond b (whole u.factor) (whole 0)))) (sym (same_∗ n P identity R) ∙ ap (λ S. same n S R) (∗_identity P))
    where
      one_term : product n (phased k P ∷ []) (product n U (adjoint U)) ≡ map (term_product n (phased k P)) (product n U (adjoint U))
      one_term = unfold product in ++_nil _

      step : on_left n (phased k P) (coefficient_of n (product n U (adjoint U))) R
          ≡ times_I^ k (times_I^ (phase n P (P ∗ R)) (cond (same n identity (P ∗ R)) (whole u.factor) (whole 0)))
      step =
          unfold on_left phased in
          times_I^_times k (whole 1) _
          ∙ ap (times_I^ k) (one_times _ ∙ ap (times_I^ (phase n P (P ∗ R))) (u.equal (P ∗ R)))

  unitary_here : (k : ℕ) (P : Pauli) → coefficient_of n (product n (product n (phased k P ∷ []) U) (adjoint U)) P ≡ times_I^ k (whole u.factor)
  unitary_here k P =
      unitary_at k P P
      ∙ ap₂ (λ (j : ℕ) b. times_I^ k (times_I^ j (cond b (whole u.factor) (whole 0)))) (ap (phase n P) (∗_self P) ∙ phase_identity n P) (same_self n P)
      ∙ ap (times_I^ k) (times_I^_zero _)

  -- What U takes Q to is determined on the n qubits.
  pub takes_unique : {Q Q₁ Q₂ : Pauli} → Takes n U Q Q₁ → Takes n U Q Q₂ → same n Q₁ Q₂ ≡ true
  takes_unique {Q} {Q₁} {Q₂} a b = go (same n Q₂ Q₁) refl
    where
      both : Equal n (product n (phased (0 + a.unit) Q₁ ∷ []) U) (product n (phased (0 + b.unit) Q₂ ∷ []) U)
      both = back (takes_to n a 0) then takes_to n b 0

      at_Q₁ : times_I^ (0 + a.unit) (whole u.factor)
          ≡ times_I^ (0 + b.unit) (times_I^ (phase n Q₂ (Q₂ ∗ Q₁)) (cond (same n Q₂ Q₁) (whole u.factor) (whole 0)))
      at_Q₁ = sym (unitary_here (0 + a.unit) Q₁) ∙ (in_first (adjoint U) both).at Q₁ ∙ unitary_at (0 + b.unit) Q₂ Q₁

      go : (c : Bool) → same n Q₂ Q₁ ≡ c → same n Q₁ Q₂ ≡ true
      go true e = same_comm n Q₁ Q₂ ∙ e
      go false e =
          absurd
          (positive_not_zero u.factor u.positive
          (times_I^_cancel (0 + a.unit)
          (at_Q₁
          ∙ ap (λ c. times_I^ (0 + b.unit) (times_I^ (phase n Q₂ (Q₂ ∗ Q₁)) (cond c (whole u.factor) (whole 0)))) e
          ∙ ap (times_I^ (0 + b.unit)) (times_I^_of_zero _)
          ∙ times_I^_of_zero (0 + b.unit)
          ∙ sym (times_I^_of_zero (0 + a.unit)))))

  -- Commutation is kept.
  pub takes_commutes : {P P' Q Q' : Pauli} → Takes n U P P' → Takes n U Q Q' → anticommutes n P' Q' ≡ anticommutes n P Q
  takes_commutes {P} {P'} {Q} {Q'} p q =
      sign_unique u.factor u.positive (anticommutes n P' Q') (anticommutes n P Q)
      (times_I^_cancel k
      (times_I^_comm k (twice (anticommutes n P' Q')) _
      ∙ sym (at_R (twice (anticommutes n P' Q')))
      ∙ (in_first (adjoint U) both).at (Q' ∗ P')
      ∙ at_R (twice (anticommutes n P Q))
      ∙ times_I^_comm (twice (anticommutes n P Q)) k _))
    where
      a : ℕ
      a = 0 + p.unit

      b : ℕ
      b = 0 + q.unit

      k : ℕ
      k = b + (a + phase n Q' P')

      -- U · PQ in two ways
      both : Equal n (phased_sum (twice (anticommutes n P' Q')) (product n (phased k (Q' ∗ P') ∷ []) U))
          (phased_sum (twice (anticommutes n P Q)) (product n (phased k (Q' ∗ P') ∷ []) U))
      both =
          terms_equal
          (sym (phased_sum_product n (twice (anticommutes n P' Q')) (phased k (Q' ∗ P') ∷ []) U)
          ∙ ap (λ t. product n (t ∷ []) U) (ap (phased_term (twice (anticommutes n P' Q'))) (sym (phased_⊙ n b a Q' P')) ∙ sym (phased_swapped n a b P' Q')))
          then back (pair n p q)
          then terms_equal (ap (λ t. product n U (t ∷ [])) (swapped n P Q) ∙ product_phased_sum n (twice (anticommutes n P Q)) U _)
          then phased_sum_equal (twice (anticommutes n P Q)) (pair n q p then terms_equal (ap (λ t. product n (t ∷ []) U) (phased_⊙ n b a Q' P')))

      at_R : (j : ℕ) → coefficient_of n (product n (phased_sum j (product n (phased k (Q' ∗ P') ∷ []) U)) (adjoint U)) (Q' ∗ P')
          ≡ times_I^ j (times_I^ k (whole u.factor))
      at_R j =
          ap (λ W. coefficient_of n W (Q' ∗ P')) (phased_sum_product n j (product n (phased k (Q' ∗ P') ∷ []) U) (adjoint U))
          ∙ phased_sum_coefficient n j _ (Q' ∗ P')
          ∙ ap (times_I^ j) (unitary_here k (Q' ∗ P'))

-- ---- one unitary after another

number : Gaussian → Term
number g = record { coefficient = g; pauli = identity }

whole_times : (a b : ℕ) → times (whole a) (whole b) ≡ whole (a * b)
unfolding times whole
whole_times a b = gaussian_path (+ℤ_idr _) (ap₂ ◌+ℤ◌ (*ℤ-zero (pos a)) (zero-*ℤ (pos b)))

module _ (n : ℕ) where
  numbers : (g h : Gaussian) → product n (number g ∷ []) (number h ∷ []) ≡ number (times g h) ∷ []
  unfolding product term_product number
  numbers g h =
      ap (λ t. t ∷ []) (term_path (ap (λ (k : ℕ). times_I^ k (times g h)) (phase_identity n identity) ∙ times_I^_zero _) (∗_identity identity))

  -- a number can stand on either side
  number_moved : (U : Sum) (g : Gaussian) → product n U (number g ∷ []) ≡ product n (number g ∷ []) U
  unfolding product
  number_moved [] g = refl
  number_moved (t ∷ U) g = ap₂ ◌∷◌ moved (number_moved U g)
    where
      moved : term_product n t (number g) ≡ term_product n (number g) t
      moved =
          unfold term_product number in
          term_path (ap₂ times_I^ (phase_identity n t.pauli ∙ sym (identity_phase n t.pauli)) (times_comm t.coefficient g)) (∗_comm t.pauli identity)

  number_coefficient : (g : Gaussian) (R : Pauli) → coefficient_of n (number g ∷ []) R ≡ cond (same n identity R) g (whole 0)
  unfolding coefficient_of number
  number_coefficient g R = plus_zero _

  factor_of : {U : Sum} (u : IsUnitary n U) → Equal n (product n U (adjoint U)) (number (whole u.factor) ∷ [])
  factor_of u = record { at = λ R. u.equal R ∙ sym (number_coefficient _ R) }

  unitary_from : (U : Sum) (m : ℕ) → 0 < m → Equal n (product n U (adjoint U)) (number (whole m) ∷ []) → IsUnitary n U
  unitary_from U m h e = record { factor = m; positive = h; equal = λ R. e.at R ∙ number_coefficient _ R }

  pub product_unitary : (U W : Sum) → IsUnitary n U → IsUnitary n W → IsUnitary n (product n U W)
  product_unitary U W u w =
      unitary_from (product n U W) (w.factor * u.factor) (pos_mul w.factor u.factor w.positive u.positive)
      (in_second (product n U W) (adjoint_product n U W)
      then terms_equal
      (product_assoc n U W (product n (adjoint W) (adjoint U)) ∙ ap (product n U) (sym (product_assoc n W (adjoint W) (adjoint U))))
      then in_second U (in_first (adjoint U) (factor_of w))
      then terms_equal
      (sym (product_assoc n U (number a ∷ []) (adjoint U))
      ∙ ap (λ X. product n X (adjoint U)) (number_moved U a)
      ∙ product_assoc n (number a ∷ []) U (adjoint U))
      then in_second (number a ∷ []) (factor_of u)
      then terms_equal (numbers a b ∙ ap (λ g. number g ∷ []) (whole_times w.factor u.factor)))
    where
      a : Gaussian
      a = whole w.factor

      b : Gaussian
      b = whole u.factor

      pos_mul : (j k : ℕ) → 0 < j → 0 < k → 0 < j * k
      pos_mul (suc j) (suc k) g h = omega arith
      pos_mul zero k g h = omega (arith, g)
      pos_mul (suc j) zero g h = omega (arith, h)
