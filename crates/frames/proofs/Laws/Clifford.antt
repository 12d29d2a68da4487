-- Test 7: a table passes exactly where its rows are in the table's range and commute as the generators do; and the map of a Clifford line extends
-- the table. Assumes nothing.
use Rattle.std.specs.Prelude.{◌≡◌, refl, Bool, false, List, [], ◌∷◌, ℕ, zero, suc, ◌+◌, ◌-◌, ◌*◌, ◌^◌, ◌<◌, ◌≤◌, ltb, length}
use Rattle.std.proofs.Math.Path.{sym, ap, ap₂}
use Rattle.std.proofs.Common.{◌∙◌, subst, zero-add, arith}
use Rattle.std.proofs.Math.Bool.{true, not, ◌&&◌, ◌||◌}
use Rattle.std.proofs.Math.Decide.{ℕ_discrete}
use Rattle.std.proofs.Math.Dec.{eqb}
use borrow.Author.Tests.{ltb-true, ltb-false, lt-ltb, eq-eqb, ne_eqb}
use Rattle.text.proofs.Laws.Values.{both}
use Rattle.pauli.specs.Bits.{◌⊕◌}
use Rattle.pauli.specs.Pauli.{Pauli, anticommutes}
use Rattle.pauli.proofs.Laws.F2.{⊕_self}
use Rattle.pauli.proofs.Laws.Gates.{pauli_path}
use Rattle.pauli.proofs.Laws.Pairing.{anti_comm}
use Rattle.job.specs.Clifford.{row_over, every, generators_anticommute, is_clifford_of}
use Rattle.job.specs.Checks.{distinct}
use Rattle.job.proofs.Laws.Lists.{every_holds}
use Rattle.frames.specs.Forward.{table_row, images_from, images_of, transformed}
use Rattle.frames.specs.Conjugation.{IsRow, ExtendsTable}
use Rattle.frames.proofs.Laws.Same.{equal_bits}
use Rattle.frames.proofs.Laws.Places.{placed_at, placed_off, by_places, on_qubits}
use Rattle.frames.proofs.Laws.Images.{images_by, transformed_extends, extends_as}
use Rattle.frames.proofs.Laws.Commutation.{CommuteAsGenerators, ExtendsOnto}

-- ---- the test, by the places

holds_every : (n : ℕ) (f : ℕ → Bool) → ((i : ℕ) → i < n → f i ≡ true) → every n f ≡ true
unfolding every
holds_every zero f h = refl
holds_every (suc n) f h = ap₂ ◌&&◌ (h n (omega arith)) (holds_every n f (λ i g. h i (omega (arith, g))))

-- rows 0 to k-1, and the next k
data Half (k : ℕ) : ℕ → Type 0 where
  low : (i : ℕ) → i < k → Half k i
  high : (i : ℕ) → i < k → Half k (k + i)

half : (k r : ℕ) → r < 2 * k → Half k r
half k r h = go (ltb r k) refl
  where
    go : (b : Bool) → ltb r k ≡ b → Half k r
    go true e = low r (ltb-true r k e)
    go false e = let g : k ≤ r = ltb-false r k e in subst (Half k) (omega arith) (high (r - k) (omega arith))

module _ (k i j : ℕ) (h : i < k) (h' : j < k) where
  generators_X_X : generators_anticommute k i j ≡ false
  unfolding generators_anticommute
  generators_X_X = ap₂ ◌||◌ (ne_eqb j (i + k) (λ e. omega (arith, e))) (ne_eqb i (j + k) (λ e. omega (arith, e)))

  generators_Z_Z : generators_anticommute k (k + i) (k + j) ≡ false
  unfolding generators_anticommute
  generators_Z_Z = ap₂ ◌||◌ (ne_eqb (k + j) (k + i + k) (λ e. omega (arith, e))) (ne_eqb (k + i) (k + j + k) (λ e. omega (arith, e)))

  generators_X_Z : generators_anticommute k i (k + j) ≡ eqb i j
  unfolding generators_anticommute
  generators_X_Z = go (ℕ_discrete i j)
    where
      go : Dec (i ≡ j) → eqb (k + j) (i + k) || eqb i (k + j + k) ≡ eqb i j
      go (yes e) = ap (λ b. b || eqb i (k + j + k)) (eq-eqb (k + j) (i + k) (omega (arith, e))) ∙ sym (eq-eqb i j e)
      go (no ne) = ap₂ ◌||◌ (ne_eqb (k + j) (i + k) (λ e. ne (omega (arith, e)))) (ne_eqb i (k + j + k) (λ e. omega (arith, e))) ∙ sym (ne_eqb i j ne)

  generators_Z_X : generators_anticommute k (k + i) j ≡ eqb j i
  unfolding generators_anticommute
  generators_Z_X = go (ℕ_discrete j i)
    where
      go : Dec (j ≡ i) → eqb j (k + i + k) || eqb (k + i) (j + k) ≡ eqb j i
      go (yes e) = ap₂ ◌||◌ (ne_eqb j (k + i + k) (λ p. omega (arith, p))) (eq-eqb (k + i) (j + k) (omega (arith, e))) ∙ sym (eq-eqb j i e)
      go (no ne) = ap₂ ◌||◌ (ne_eqb j (k + i + k) (λ p. omega (arith, p))) (ne_eqb (k + i) (j + k) (λ p. ne (omega (arith, p)))) ∙ sym (ne_eqb j i ne)

module _ (k t : ℕ) where
  abbrev pub RowsCommute : Type 0
  RowsCommute = CommuteAsGenerators k (row_over k t) (λ i. row_over k t (k + i))

  -- the test of two rows
  fits : ℕ → ℕ → Bool
  fits r s = not (anticommutes k (row_over k t r) (row_over k t s) ⊕ generators_anticommute k r s)

  rows_fit : RowsCommute → (r s : ℕ) → Half k r → Half k s → anticommutes k (row_over k t r) (row_over k t s) ≡ generators_anticommute k r s
  rows_fit c r s (low i h) (low j h') = c.X_X i j h h' ∙ sym (generators_X_X k i j h h')
  rows_fit c r s (low i h) (high j h') = c.X_Z i j h h' ∙ sym (generators_X_Z k i j h h')
  rows_fit c r s (high i h) (low j h') = anti_comm k (row_over k t (k + i)) (row_over k t j) ∙ c.X_Z j i h' h ∙ sym (generators_Z_X k i j h h')
  rows_fit c r s (high i h) (high j h') = c.Z_Z i j h h' ∙ sym (generators_Z_Z k i j h h')

  pub test_rows : is_clifford_of k t ≡ true → (t < 2 ^ (4 * (k * k))) × RowsCommute
  unfolding is_clifford_of fits
  test_rows e =
      let s = both (ltb t (2 ^ (4 * (k * k)))) (every (2 * k) (λ r. every (2 * k) (fits r))) e in (
        ltb-true t (2 ^ (4 * (k * k))) s.0,
        record {
          X_X = λ i j h h'. at s.1 i j (omega (arith, h)) (omega (arith, h')) ∙ generators_X_X k i j h h';
          Z_Z = λ i j h h'. at s.1 (k + i) (k + j) (omega (arith, h)) (omega (arith, h')) ∙ generators_Z_Z k i j h h';
          X_Z = λ i j h h'. at s.1 i (k + j) (omega (arith, h)) (omega (arith, h')) ∙ generators_X_Z k i j h h';
        },
      )
    where
      at : every (2 * k) (λ r. every (2 * k) (fits r)) ≡ true → (r s : ℕ) → r < 2 * k → s < 2 * k
          → anticommutes k (row_over k t r) (row_over k t s) ≡ generators_anticommute k r s
      at e r s h h' = equal_bits _ _ (every_holds (2 * k) (fits r) (every_holds (2 * k) (λ r. every (2 * k) (fits r)) e r h) s h')

  pub rows_test : t < 2 ^ (4 * (k * k)) → RowsCommute → is_clifford_of k t ≡ true
  unfolding is_clifford_of fits
  rows_test h c =
      ap₂ ◌&&◌ (lt-ltb t (2 ^ (4 * (k * k))) h)
      (holds_every (2 * k) (λ r. every (2 * k) (fits r)) (λ r g. holds_every (2 * k) (fits r) (λ s g'. equal r s (rows_fit c r s (half k r g) (half k s g')))))
    where
      equal : (r s : ℕ) → anticommutes k (row_over k t r) (row_over k t s) ≡ generators_anticommute k r s → fits r s ≡ true
      equal r s e = ap (λ x. not (x ⊕ generators_anticommute k r s)) e ∙ ap not (⊕_self (generators_anticommute k r s))

-- ---- the images are the table's rows

module _ (qs : List ℕ) (d : distinct qs ≡ true) (t : ℕ) where
  pub table_row_lem : (r : ℕ) → IsRow qs t r (table_row qs t r)
  unfolding table_row row_over
  table_row_lem r =
      record {
        columns_X = λ j h. placed_at _ qs d j h;
        columns_Z = λ j h. placed_at _ qs d j h;
        no_other_X = λ q o. placed_off _ qs q o;
        no_other_Z = λ q o. placed_off _ qs q o;
      }

  -- a row on the operands is the row on the places, put there
  pub row_is : (r : ℕ) (P : Pauli) → IsRow qs t r P → P ≡ on_qubits qs (row_over (length qs) t r)
  unfolding on_qubits row_over
  row_is r P e =
      pauli_path (by_places qs d P.x _ e.columns_X e.no_other_X) (by_places qs d P.z _ e.columns_Z e.no_other_Z)

images_from_lem : (qs : List ℕ) (t i : ℕ) (rest : List ℕ) (X Z : ℕ → Pauli) → ((j : ℕ) → table_row qs t (i + j) ≡ X j) → ((j : ℕ) → table_row qs t (length qs + (i + j)) ≡ Z j)
    → images_from qs t i rest ≡ images_by X Z rest
unfolding images_from images_by
images_from_lem qs t i [] X Z x z = refl
images_from_lem qs t i (q ∷ rest) X Z x z =
    ap₂ ◌∷◌
    (ap₂ (λ A B. record { qubit = q; of_X = A; of_Z = B }) (ap (table_row qs t) here ∙ x 0) (ap (λ r. table_row qs t (length qs + r)) here ∙ z 0))
    (images_from_lem qs t (suc i) rest (λ j. X (suc j)) (λ j. Z (suc j)) (λ j. ap (table_row qs t) (next j) ∙ x (suc j)) (λ j. ap (λ r. table_row qs t (length qs + r)) (next j) ∙ z (suc j)))
  where
    here : i ≡ i + 0
    here = omega arith

    next : (j : ℕ) → suc i + j ≡ i + suc j
    next j = omega arith

images_are : (qs : List ℕ) (t : ℕ) → images_of qs t ≡ images_by (table_row qs t) (λ i. table_row qs t (length qs + i)) qs
unfolding images_of
images_are qs t =
    images_from_lem qs t 0 qs (table_row qs t) (λ i. table_row qs t (length qs + i)) (λ j. ap (table_row qs t) (zero-add j)) (λ j. ap (λ r. table_row qs t (length qs + r)) (zero-add j))

module _ (n : ℕ) (qs : List ℕ) (d : distinct qs ≡ true) (t : ℕ) where
  -- the map of a Clifford line extends its table
  pub clifford_extends : ExtendsTable n qs t (transformed qs (images_of qs t))
  clifford_extends =
      rw (images_are qs t)
      (extends_as (λ i P. P ≡ table_row qs t i) (λ i P. P ≡ table_row qs t (length qs + i)) (IsRow qs t) (λ i. IsRow qs t (length qs + i))
      (λ i h P e. subst (IsRow qs t i) (sym e) (table_row_lem qs d t i))
      (λ i h P e. subst (IsRow qs t (length qs + i)) (sym e) (table_row_lem qs d t (length qs + i)))
      (transformed_extends (table_row qs t) (λ i. table_row qs t (length qs + i)) qs n d))

  pub table_onto : (f : Pauli → Pauli) → ExtendsTable n qs t f → ExtendsOnto n qs (row_over (length qs) t) (λ i. row_over (length qs) t (length qs + i)) f
  table_onto f =
      extends_as (IsRow qs t) (λ i. IsRow qs t (length qs + i)) _ _ (λ i h P. row_is qs d t i P) (λ i h P. row_is qs d t (length qs + i) P)
