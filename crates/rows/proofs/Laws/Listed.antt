-- Loops over listed rows: a turn, and the end. The invariant is that what is left to do, from here, comes to the whole. Assumes nothing.
use Rattle.std.specs.Prelude.{◌≡◌, refl, List, [], ◌∷◌, ℕ, suc, ◌+◌, ◌*◌, ◌<◌, ◌≤◌, length, get_or, drop}
use Rattle.std.proofs.Common.{ap, ◌∙◌, arith, add-zero, add-one, drop_of_length-le, drop-cons}
use Rattle.std.proofs.Math.Nat.{add-suc}
use Rattle.rows.specs.Overwrite.{copied}
use Rattle.rows.specs.Listed.{RowsIn, over_list, collected}
use Rattle.rows.proofs.Laws.Overwrite.{before_row}

pub rows_tail : (w q : ℕ) (qs words : List ℕ) → RowsIn w (q ∷ qs) words → RowsIn w qs words
rows_tail w q qs words r = record { fits = λ i h. r.fits (suc i) (omega arith) }

-- the listed rows lie in any words of the same length
pub rows_kept : (w : ℕ) (list words words' : List ℕ) → length words' ≡ length words → RowsIn w list words → RowsIn w list words'
rows_kept w list words words' e r = record { fits = λ i h. omega (arith, r.fits i h) }

module _ (step : ℕ → List ℕ → List ℕ) (list : List ℕ) (i : ℕ) (l whole : List ℕ) where
  pub over_turn : (l' : List ℕ) → i < length list → l' ≡ step (get_or list i 0) l → over_list step (drop i list) l ≡ whole
      → over_list step (drop (i + 1) list) l' ≡ whole
  unfolding over_list
  over_turn l' h e inv = rw (add-one, e) (rw (drop-cons list i 0 h) at inv)

  pub over_end : length list ≤ i → over_list step (drop i list) l ≡ whole → l ≡ whole
  unfolding over_list
  over_end h inv = rw (drop_of_length-le list h) at inv

-- two turns at once, and four
module _ (step : ℕ → List ℕ → List ℕ) (list : List ℕ) (i : ℕ) (l whole : List ℕ) where
  pub over_two : (l' : List ℕ) → l' ≡ step (get_or list (i + 1) 0) (step (get_or list i 0) l) → over_list step (drop i list) l ≡ whole → i + 2 ≤ length list
      → over_list step (drop (i + 2) list) l' ≡ whole
  over_two l' e inv h =
      let next : i + 2 ≡ i + 1 + 1 = omega arith in
      ap (λ (k : ℕ). over_list step (drop k list) l') next
      ∙ over_turn step list (i + 1) _ whole l' (omega arith) e (over_turn step list i l whole _ (omega arith) refl inv)

module _ (step : ℕ → List ℕ → List ℕ) (list : List ℕ) (i : ℕ) (l whole : List ℕ) where
  pub over_four : (l' : List ℕ)
      → l' ≡ step (get_or list (i + 3) 0) (step (get_or list (i + 2) 0) (step (get_or list (i + 1) 0) (step (get_or list i 0) l)))
      → over_list step (drop i list) l ≡ whole → i + 4 ≤ length list → over_list step (drop (i + 4) list) l' ≡ whole
  over_four l' e inv h =
      let two = step (get_or list (i + 1) 0) (step (get_or list i 0) l) in
      let next : i + 4 ≡ i + 2 + 2 = omega arith in
      let last : i + 3 ≡ i + 2 + 1 = omega arith in
      ap (λ (k : ℕ). over_list step (drop k list) l') next
      ∙ over_two step list (i + 2) two whole l' (e ∙ ap (λ (k : ℕ). step (get_or list k 0) (step (get_or list (i + 2) 0) two)) last)
      (over_two step list i l whole two refl inv (omega arith)) (omega arith)

pub length_over : (step : ℕ → List ℕ → List ℕ) → ((q : ℕ) (l : List ℕ) → length (step q l) ≡ length l) → (list l : List ℕ)
    → length (over_list step list l) ≡ length l
unfolding over_list
length_over step same [] l = refl
length_over step same (q ∷ qs) l = length_over step same qs (step q l) ∙ same q l

-- a row of those from `first` on
pub row_before : (w first i k : ℕ) → i < k → (first + i) * w + w ≤ (first + k) * w
row_before w first i k h = before_row w (first + i) (first + k) (omega arith)

pub collected_starts : (w : ℕ) (src list : List ℕ) (first : ℕ) (l : List ℕ) → collected w src (first + 0) list l ≡ collected w src first list l
collected_starts w src list first l = ap (λ r. collected w src r list l) (add-zero first)

module _ (w : ℕ) (src list : List ℕ) (first i : ℕ) (l whole : List ℕ) where
  pub collected_turn : (l' : List ℕ) → i < length list → l' ≡ copied ((first + i) * w) (get_or list i 0 * w) w src l
      → collected w src (first + i) (drop i list) l ≡ whole → collected w src (first + (i + 1)) (drop (i + 1) list) l' ≡ whole
  unfolding collected
  collected_turn l' h e inv = rw (add-one, add-suc, e) (rw (drop-cons list i 0 h) at inv)

  pub collected_end : length list ≤ i → collected w src (first + i) (drop i list) l ≡ whole → l ≡ whole
  unfolding collected
  collected_end h inv = rw (drop_of_length-le list h) at inv
