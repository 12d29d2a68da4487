-- Sums of Paulis by their coefficients: those of a product are linear in each factor, so equal factors may be put for one another; products of
-- sums are associative, and the adjoint turns them round. Assumes nothing.
use Rattle.std.specs.Prelude.{◌≡◌, Bool, ℕ}
use Rattle.std.proofs.Math.Path.{refl, sym, ap, ap₂, fun_ext}
use Rattle.std.proofs.Common.{◌∙◌}
use Rattle.std.proofs.Math.Bool.{true, false, cond}
use mathlib.Core.List.{[], ◌∷◌, ◌++◌, map}
use Rattle.pauli.specs.Pauli.{Pauli, ◌∗◌}
use Rattle.frames.specs.Conjugation.{Gaussian, whole, plus, times, times_I^, phase, Term, Sum, term_product, product, adjoint_term, adjoint, same, coefficient_of}
use Rattle.frames.proofs.Laws.Gaussian.{plus_assoc, plus_left_comm, zero_plus, times_plus, plus_times, zero_times, times_zero, times_I^_plus, times_I^_of_zero, times_I^_times, times_times_I^}
use Rattle.frames.proofs.Laws.Same.{same_∗, same_∗_right, phase_same, same_phase}
use Rattle.frames.proofs.Laws.Terms.{phased_term, phased_term_⊙, ⊙_phasedTerm, ⊙_assoc, adjoint_⊙}

-- ---- coefficients

-- what a term adds to the coefficient of R
unfoldable pub share : ℕ → Term → Pauli → Gaussian
share n t R = cond (same n t.pauli R) t.coefficient (whole 0)

pub coefficient_∷ : (n : ℕ) (t : Term) (U : Sum) (R : Pauli) → coefficient_of n (t ∷ U) R ≡ plus (share n t R) (coefficient_of n U R)
unfolding coefficient_of share
coefficient_∷ n t U R = refl

pub coefficient_++ : (n : ℕ) (U W : Sum) (R : Pauli) → coefficient_of n (U ++ W) R ≡ plus (coefficient_of n U R) (coefficient_of n W R)
unfolding coefficient_of
coefficient_++ n [] W R = sym (zero_plus _)
coefficient_++ n (t ∷ U) W R = ap (plus _) (coefficient_++ n U W R) ∙ sym (plus_assoc _ _ _)

-- a term, times a sum with the coefficients f; and the other way round
unfoldable pub on_left : ℕ → Term → (Pauli → Gaussian) → Pauli → Gaussian
on_left n t f R = times t.coefficient (times_I^ (phase n t.pauli (t.pauli ∗ R)) (f (t.pauli ∗ R)))

unfoldable pub on_right : ℕ → (Pauli → Gaussian) → Term → Pauli → Gaussian
on_right n f t R = times (times_I^ (phase n (R ∗ t.pauli) t.pauli) (f (R ∗ t.pauli))) t.coefficient

module _ (n : ℕ) where
  share_left : (t w : Term) (R : Pauli) → share n (term_product n t w) R ≡ on_left n t (share n w) R
  unfolding share on_left term_product
  share_left t w R = go (same n w.pauli (t.pauli ∗ R)) refl
    where
      go : (b : Bool) → same n w.pauli (t.pauli ∗ R) ≡ b
          → cond (same n (t.pauli ∗ w.pauli) R) (times_I^ (phase n t.pauli w.pauli) (times t.coefficient w.coefficient)) (whole 0)
          ≡ times t.coefficient (times_I^ (phase n t.pauli (t.pauli ∗ R)) (cond (same n w.pauli (t.pauli ∗ R)) w.coefficient (whole 0)))
      go true e =
          rw (same_∗ n t.pauli w.pauli R, e)
          (ap (λ (k : ℕ). times_I^ k (times t.coefficient w.coefficient)) (phase_same n t.pauli w.pauli (t.pauli ∗ R) e) ∙ sym (times_times_I^ _ _ _))
      go false e = rw (same_∗ n t.pauli w.pauli R, e) (sym (ap (times t.coefficient) (times_I^_of_zero _) ∙ times_zero _))

  share_right : (w t : Term) (R : Pauli) → share n (term_product n w t) R ≡ on_right n (share n w) t R
  unfolding share on_right term_product
  share_right w t R = go (same n w.pauli (R ∗ t.pauli)) refl
    where
      go : (b : Bool) → same n w.pauli (R ∗ t.pauli) ≡ b
          → cond (same n (w.pauli ∗ t.pauli) R) (times_I^ (phase n w.pauli t.pauli) (times w.coefficient t.coefficient)) (whole 0)
          ≡ times (times_I^ (phase n (R ∗ t.pauli) t.pauli) (cond (same n w.pauli (R ∗ t.pauli)) w.coefficient (whole 0))) t.coefficient
      go true e =
          rw (same_∗_right n t.pauli w.pauli R, e)
          (ap (λ (k : ℕ). times_I^ k (times w.coefficient t.coefficient)) (same_phase n w.pauli (R ∗ t.pauli) t.pauli e) ∙ sym (times_I^_times _ _ _))
      go false e =
          rw (same_∗_right n t.pauli w.pauli R, e)
          (sym (ap (λ c. times c t.coefficient) (times_I^_of_zero _) ∙ zero_times _))

  -- ---- both are linear

  module _ (t : Term) (R : Pauli) where
    left_zero : on_left n t (λ S. (whole 0)) R ≡ whole 0
    unfolding on_left
    left_zero = ap (times t.coefficient) (times_I^_of_zero _) ∙ times_zero _

    left_plus : (f g : Pauli → Gaussian) → on_left n t (λ S. plus (f S) (g S)) R ≡ plus (on_left n t f R) (on_left n t g R)
    unfolding on_left
    left_plus f g = ap (times t.coefficient) (times_I^_plus _ _ _) ∙ times_plus _ _ _

    right_zero : on_right n (λ S. (whole 0)) t R ≡ whole 0
    unfolding on_right
    right_zero = ap (λ c. times c t.coefficient) (times_I^_of_zero _) ∙ zero_times _

    right_plus : (f g : Pauli → Gaussian) → on_right n (λ S. plus (f S) (g S)) t R ≡ plus (on_right n f t R) (on_right n g t R)
    unfolding on_right
    right_plus f g = ap (λ c. times c t.coefficient) (times_I^_plus _ _ _) ∙ plus_times _ _ _

  coefficient_is : (t : Term) (U : Sum) → coefficient_of n (t ∷ U) ≡ (λ R. plus (share n t R) (coefficient_of n U R))
  coefficient_is t U = fun_ext (coefficient_∷ n t U)

  -- ---- the coefficients of a product

  -- a term times a sum, and a sum times a term
  pub map_left : (t : Term) (W : Sum) (R : Pauli) → coefficient_of n (map (term_product n t) W) R ≡ on_left n t (coefficient_of n W) R
  map_left t [] R = unfold coefficient_of in sym (left_zero t R)
  map_left t (w ∷ W) R =
      coefficient_∷ n (term_product n t w) (map (term_product n t) W) R
      ∙ ap₂ plus (share_left t w R) (map_left t W R)
      ∙ sym (left_plus t R (share n w) (coefficient_of n W))
      ∙ ap (λ f. on_left n t f R) (sym (coefficient_is w W))

  pub map_right : (U : Sum) (t : Term) (R : Pauli) → coefficient_of n (map (λ u. term_product n u t) U) R ≡ on_right n (coefficient_of n U) t R
  map_right [] t R = unfold coefficient_of in sym (right_zero t R)
  map_right (u ∷ U) t R =
      coefficient_∷ n (term_product n u t) (map (λ v. term_product n v t) U) R
      ∙ ap₂ plus (share_right u t R) (map_right U t R)
      ∙ sym (right_plus t R (share n u) (coefficient_of n U))
      ∙ ap (λ f. on_right n f t R) (sym (coefficient_is u U))

  -- by the terms of the first factor, and by those of the second
  from_left : Sum → (Pauli → Gaussian) → Pauli → Gaussian
  from_left [] f R = (whole 0)
  from_left (t ∷ U) f R = plus (on_left n t f R) (from_left U f R)

  from_right : (Pauli → Gaussian) → Sum → Pauli → Gaussian
  from_right f [] R = (whole 0)
  from_right f (t ∷ W) R = plus (on_right n f t R) (from_right f W R)

  product_left : (U W : Sum) (R : Pauli) → coefficient_of n (product n U W) R ≡ from_left U (coefficient_of n W) R
  unfolding product from_left coefficient_of
  product_left [] W R = refl
  product_left (t ∷ U) W R = coefficient_++ n (map (term_product n t) W) (product n U W) R ∙ ap₂ plus (map_left t W R) (product_left U W R)

  from_zero : (W : Sum) (R : Pauli) → from_right (λ S. (whole 0)) W R ≡ whole 0
  unfolding from_right
  from_zero [] R = refl
  from_zero (t ∷ W) R = ap₂ plus (right_zero t R) (from_zero W R) ∙ zero_plus _

  from_plus : (f g : Pauli → Gaussian) (W : Sum) (R : Pauli) → from_right (λ S. plus (f S) (g S)) W R ≡ plus (from_right f W R) (from_right g W R)
  unfolding from_right
  from_plus f g [] R = sym (zero_plus _)
  from_plus f g (t ∷ W) R = ap₂ plus (right_plus t R f g) (from_plus f g W R) ∙ crossed _ _ _ _
    where
      crossed : (a b c d : Gaussian) → plus (plus a b) (plus c d) ≡ plus (plus a c) (plus b d)
      crossed a b c d = plus_assoc a b (plus c d) ∙ ap (plus a) (plus_left_comm b c d) ∙ sym (plus_assoc a c (plus b d))

  from_share : (t : Term) (W : Sum) (R : Pauli) → coefficient_of n (map (term_product n t) W) R ≡ from_right (share n t) W R
  unfolding from_right coefficient_of
  from_share t [] R = refl
  from_share t (w ∷ W) R =
      coefficient_∷ n (term_product n t w) (map (term_product n t) W) R ∙ ap₂ plus (share_right t w R) (from_share t W R)

  product_right : (U W : Sum) (R : Pauli) → coefficient_of n (product n U W) R ≡ from_right (coefficient_of n U) W R
  unfolding product coefficient_of
  product_right [] W R = sym (from_zero W R)
  product_right (t ∷ U) W R =
      coefficient_++ n (map (term_product n t) W) (product n U W) R
      ∙ ap₂ plus (from_share t W R) (product_right U W R)
      ∙ sym (from_plus (share n t) (coefficient_of n U) W R)
      ∙ ap (λ f. from_right f W R) (sym (coefficient_is t U))

-- ---- equal sums

-- U and W have the same coefficients
pub record Equal (n : ℕ) (U W : Sum) : Type 0 where
  pub at : (R : Pauli) → coefficient_of n U R ≡ coefficient_of n W R

infixr 30 ◌then◌
pub ◌then◌ : {n : ℕ} {U M W : Sum} → Equal n U M → Equal n M W → Equal n U W
e then f = record { at = λ R. e.at R ∙ f.at R }

pub back : {n : ℕ} {U W : Sum} → Equal n U W → Equal n W U
back e = record { at = λ R. sym (e.at R) }

pub terms_equal : {n : ℕ} {U W : Sum} → U ≡ W → Equal n U W
terms_equal {n} e = record { at = λ R. ap (λ U. coefficient_of n U R) e }

-- equal sums may be put for one another in a product
pub in_second : {n : ℕ} (U : Sum) {W W' : Sum} → Equal n W W' → Equal n (product n U W) (product n U W')
in_second {n} U {W} {W'} e =
    record { at = λ R. product_left n U W R ∙ ap (λ f. from_left n U f R) (fun_ext e.at) ∙ sym (product_left n U W' R) }

pub in_first : {n : ℕ} {U U' : Sum} (W : Sum) → Equal n U U' → Equal n (product n U W) (product n U' W)
in_first {n} {U} {U'} W e =
    record { at = λ R. product_right n U W R ∙ ap (λ f. from_right n f W R) (fun_ext e.at) ∙ sym (product_right n U' W R) }

-- ---- products of sums

-- i to the power k, times a sum
abbrev pub phased_sum : ℕ → Sum → Sum
phased_sum k U = map (phased_term k) U

pub phased_sum_coefficient : (n k : ℕ) (U : Sum) (R : Pauli) → coefficient_of n (phased_sum k U) R ≡ times_I^ k (coefficient_of n U R)
unfolding coefficient_of phased_term
phased_sum_coefficient n k [] R = sym (times_I^_of_zero k)
phased_sum_coefficient n k (t ∷ U) R =
    ap₂ plus (within (same n t.pauli R) t.coefficient) (phased_sum_coefficient n k U R) ∙ sym (times_I^_plus k _ _)
  where
    within : (b : Bool) (c : Gaussian) → cond b (times_I^ k c) (whole 0) ≡ times_I^ k (cond b c (whole 0))
    within true c = refl
    within false c = sym (times_I^_of_zero k)

map_++ : (f : Term → Term) (U W : Sum) → map f (U ++ W) ≡ map f U ++ map f W
map_++ f [] W = refl
map_++ f (t ∷ U) W = ap (λ M. f t ∷ M) (map_++ f U W)

map_map : (f g h : Term → Term) → ((t : Term) → f (g t) ≡ h t) → (U : Sum) → map f (map g U) ≡ map h U
map_map f g h e [] = refl
map_map f g h e (t ∷ U) = ap₂ ◌∷◌ (e t) (map_map f g h e U)

pub ++_nil : (U : Sum) → U ++ [] ≡ U
++_nil [] = refl
++_nil (t ∷ U) = ap (λ X. t ∷ X) (++_nil U)

++_assoc : (U M W : Sum) → (U ++ M) ++ W ≡ U ++ (M ++ W)
++_assoc [] M W = refl
++_assoc (t ∷ U) M W = ap (λ X. t ∷ X) (++_assoc U M W)

module _ (n : ℕ) where
  product_++ : (U M W : Sum) → product n (U ++ M) W ≡ product n U W ++ product n M W
  unfolding product
  product_++ [] M W = refl
  product_++ (t ∷ U) M W =
      ap (λ X. map (term_product n t) W ++ X) (product_++ U M W) ∙ sym (++_assoc (map (term_product n t) W) (product n U W) (product n M W))

  -- a term times a product is a product
  term_product_lem : (t : Term) (M W : Sum) → map (term_product n t) (product n M W) ≡ product n (map (term_product n t) M) W
  unfolding product
  term_product_lem t [] W = refl
  term_product_lem t (v ∷ M) W =
      map_++ (term_product n t) (map (term_product n v) W) (product n M W)
      ∙ ap₂ ◌++◌ (map_map (term_product n t) (term_product n v) (term_product n (term_product n t v)) (λ w. sym (⊙_assoc n t v w)) W) (term_product_lem t M W)

  pub product_assoc : (U M W : Sum) → product n (product n U M) W ≡ product n U (product n M W)
  unfolding product
  product_assoc [] M W = refl
  product_assoc (t ∷ U) M W =
      product_++ (map (term_product n t) M) (product n U M) W ∙ ap₂ ◌++◌ (sym (term_product_lem t M W)) (product_assoc U M W)

  pub phased_sum_product : (k : ℕ) (U W : Sum) → product n (phased_sum k U) W ≡ phased_sum k (product n U W)
  unfolding product
  phased_sum_product k [] W = refl
  phased_sum_product k (t ∷ U) W =
      ap₂ ◌++◌
      (sym (map_map (phased_term k) (term_product n t) (term_product n (phased_term k t)) (λ w. sym (phased_term_⊙ n k t w)) W))
      (phased_sum_product k U W)
      ∙ sym (map_++ (phased_term k) (map (term_product n t) W) (product n U W))

  pub product_phased_sum : (k : ℕ) (U W : Sum) → product n U (phased_sum k W) ≡ phased_sum k (product n U W)
  unfolding product
  product_phased_sum k [] W = refl
  product_phased_sum k (t ∷ U) W =
      ap₂ ◌++◌
      (map_map (term_product n t) (phased_term k) (λ w. phased_term k (term_product n t w)) (⊙_phasedTerm n k t) W
      ∙ sym (map_map (phased_term k) (term_product n t) (λ w. phased_term k (term_product n t w)) (λ w. refl) W))
      (product_phased_sum k U W)
      ∙ sym (map_++ (phased_term k) (map (term_product n t) W) (product n U W))

  -- ---- the adjoint of a product

  adjoint_term_lem : (t : Term) (W : Sum) → adjoint (map (term_product n t) W) ≡ map (λ w. term_product n w (adjoint_term t)) (adjoint W)
  adjoint_term_lem t W =
      map_map adjoint_term (term_product n t) (λ w. term_product n (adjoint_term w) (adjoint_term t)) (λ w. adjoint_⊙ n t w) W
      ∙ sym (map_map (λ w. term_product n w (adjoint_term t)) adjoint_term (λ w. term_product n (adjoint_term w) (adjoint_term t)) (λ w. refl) W)

  adjoint_right : (U W : Sum) (R : Pauli) → coefficient_of n (adjoint (product n U W)) R ≡ from_right n (coefficient_of n (adjoint W)) (adjoint U) R
  unfolding product from_right coefficient_of
  adjoint_right [] W R = refl
  adjoint_right (t ∷ U) W R =
      ap (λ M. coefficient_of n M R) (map_++ adjoint_term (map (term_product n t) W) (product n U W))
      ∙ coefficient_++ n (adjoint (map (term_product n t) W)) (adjoint (product n U W)) R
      ∙ ap₂ plus (ap (λ M. coefficient_of n M R) (adjoint_term_lem t W) ∙ map_right n (adjoint W) (adjoint_term t) R) (adjoint_right U W R)

  pub adjoint_product : (U W : Sum) → Equal n (adjoint (product n U W)) (product n (adjoint W) (adjoint U))
  adjoint_product U W = record { at = λ R. adjoint_right U W R ∙ sym (product_right n (adjoint W) (adjoint U) R) }
