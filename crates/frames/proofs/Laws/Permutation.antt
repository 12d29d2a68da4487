-- The map of a permutation line extends its places, and it keeps commutation exactly where no place is named twice. Assumes nothing.
use Rattle.std.specs.Prelude.{◌≡◌, refl, true, List, [], ◌∷◌, ℕ, ◌<◌, eqb, length, get_or}
use Rattle.std.proofs.Common.{sym, ◌∙◌, arith}
use Rattle.std.proofs.Math.Path.{ap₂}
use Rattle.std.proofs.Math.Bool.{◌&&◌}
use borrow.Author.Tests.{eqb-true, eq-eqb}
use Rattle.text.proofs.Laws.Values.{both}
use Rattle.pauli.specs.Pauli.{Pauli, X_at, Z_at}
use Rattle.job.specs.Checks.{all_below, distinct, is_permutation}
use Rattle.job.proofs.Laws.Lists.{below_at}
use Rattle.frames.specs.Forward.{places_of, transformed}
use Rattle.frames.specs.Conjugation.{ExtendsPlaces}
use Rattle.frames.proofs.Laws.Places.{places_eqb, places_distinct, X_on, Z_on}
use Rattle.frames.proofs.Laws.Images.{images_by, transformed_extends, extends_as}
use Rattle.frames.proofs.Laws.Commutation.{CommuteAsGenerators, ExtendsOnto, places_X_X, places_Z_Z, places_X_Z}

places_are : (places s qs : List ℕ) → length s ≡ length qs
    → places_of places s qs ≡ images_by (λ i. X_at (get_or places (get_or s i 0) 0)) (λ i. Z_at (get_or places (get_or s i 0) 0)) qs
unfolding places_of images_by
places_are places [] [] e = refl
places_are places [] (q ∷ qs) e = let z : ⊥ = omega arith in absurd z
places_are places (j ∷ s) [] e = refl
places_are places (j ∷ s) (q ∷ qs) e = ap₂ ◌∷◌ refl (places_are places s qs (omega arith))

module _ (n : ℕ) (s qs : List ℕ) (d : distinct qs ≡ true) where
  -- the map of a permutation line extends its places
  pub permutation_extends : length s ≡ length qs → ExtendsPlaces n s qs (transformed qs (places_of qs s qs))
  permutation_extends l = rw (places_are qs s qs l) (transformed_extends (λ i. X_at (get_or qs (get_or s i 0) 0)) (λ i. Z_at (get_or qs (get_or s i 0) 0)) qs n d)

  pub places_onto : length s ≡ length qs → all_below (length qs) s ≡ true → (f : Pauli → Pauli) → ExtendsPlaces n s qs f
      → ExtendsOnto n qs (λ i. X_at (get_or s i 0)) (λ i. Z_at (get_or s i 0)) f
  places_onto l b f =
      extends_as _ _ _ _ (λ i h P e. e ∙ sym (X_on qs d (get_or s i 0) (at i h))) (λ i h P e. e ∙ sym (Z_on qs d (get_or s i 0) (at i h)))
    where
      at : (i : ℕ) → i < length qs → get_or s i 0 < length qs
      at i h = below_at (length qs) s b i (omega (arith, l))

-- a permutation of k places
pub record Permutes (k : ℕ) (s : List ℕ) : Type 0 where
  pub as_many : length s ≡ k
  pub below : all_below k s ≡ true
  pub once : distinct s ≡ true

module _ (k : ℕ) (s : List ℕ) where
  pub test_permutes : is_permutation k s ≡ true → Permutes k s
  unfolding is_permutation
  test_permutes e =
      let p = both (eqb (length s) k && all_below k s) (distinct s) e in
      let q = both (eqb (length s) k) (all_below k s) p.0 in
      record { as_many = eqb-true (length s) k q.0; below = q.1; once = p.1 }

  pub permutes_test : Permutes k s → is_permutation k s ≡ true
  unfolding is_permutation
  permutes_test p = ap₂ ◌&&◌ (ap₂ ◌&&◌ (eq-eqb (length s) k p.as_many) p.below) p.once

  module _ (l : length s ≡ k) (b : all_below k s ≡ true) where
    at : (i : ℕ) → i < k → get_or s i 0 < k
    at i h = below_at k s b i (omega (arith, l))

    pub once_commutes : distinct s ≡ true → CommuteAsGenerators k (λ i. X_at (get_or s i 0)) (λ i. Z_at (get_or s i 0))
    once_commutes d =
        record {
          X_X = λ i j h h'. places_X_X k (get_or s i 0) (get_or s j 0) (at i h);
          Z_Z = λ i j h h'. places_Z_Z k (get_or s i 0) (get_or s j 0) (at i h);
          X_Z = λ i j h h'. places_X_Z k (get_or s i 0) (get_or s j 0) (at i h) ∙ places_eqb s d i j (omega (arith, l)) (omega (arith, l));
        }

    pub commutes_once : CommuteAsGenerators k (λ i. X_at (get_or s i 0)) (λ i. Z_at (get_or s i 0)) → distinct s ≡ true
    commutes_once c =
        places_distinct s
        (λ i j h h' e.
        eqb-true i j
        (sym (c.X_Z i j (omega (arith, l)) (omega (arith, l)))
        ∙ places_X_Z k (get_or s i 0) (get_or s j 0) (at i (omega (arith, l)))
        ∙ eq-eqb (get_or s i 0) (get_or s j 0) e))
