-- Loops over listed rows that take the first few off the list by a slice pattern: what the rest is, and a turn. Assumes nothing.
use Rattle.std.specs.Prelude.{◌≡◌, List, ℕ, ◌+◌, ◌-◌, ◌<◌, ◌≤◌, length, get_or, take, drop}
use Rattle.std.proofs.Common.{ap, ◌∙◌, arith, length-take, length-drop}
use Rattle.std.proofs.lemmas.List.{take_all, get_or-drop}
use Rattle.rows.specs.Listed.{RowsIn, over_list}
use Rattle.rows.proofs.Laws.Listed.{over_two, over_four}

module _ (n k : ℕ) (list : List ℕ) (e : k ≡ length list - n) where
  rest_is : take k (drop n list) ≡ drop n list
  rest_is = take_all k (drop n list) (omega (arith, length-drop n list))

  pub rows_rest : (w : ℕ) (words words' : List ℕ) → length words' ≡ length words → RowsIn w list words → RowsIn w (take k (drop n list)) words'
  rows_rest w words words' same r = record {
    fits = λ i h.
        let inside : n + i < length list = omega (arith, length-take k (drop n list), length-drop n list) in
        let row : get_or (take k (drop n list)) i 0 ≡ get_or list (n + i) 0 = ap (λ (l : List ℕ). get_or l i 0) rest_is ∙ get_or-drop n list i 0 in
        rw row (omega (arith, r.fits (n + i) inside));
  }

module _ (step : ℕ → List ℕ → List ℕ) (k : ℕ) (list l l' whole : List ℕ) (inv : over_list step list l ≡ whole) where
  pub over_first_two : k ≡ length list - 2 → 2 ≤ length list → l' ≡ step (get_or list 1 0) (step (get_or list 0 0) l)
      → over_list step (take k (drop 2 list)) l' ≡ whole
  over_first_two e h is = ap (λ (r : List ℕ). over_list step r l') (rest_is 2 k list e) ∙ over_two step list 0 l whole l' is inv h

  pub over_first_four : k ≡ length list - 4 → 4 ≤ length list
      → l' ≡ step (get_or list 3 0) (step (get_or list 2 0) (step (get_or list 1 0) (step (get_or list 0 0) l)))
      → over_list step (take k (drop 4 list)) l' ≡ whole
  over_first_four e h is = ap (λ (r : List ℕ). over_list step r l') (rest_is 4 k list e) ∙ over_four step list 0 l whole l' is inv h
