-- Running sums that are marked where a weight isn't positive: they give the place that the weights choose. Laws. Assumes nothing.
use Prim.Native.Nat.{ℕ, suc, ◌+◌, ◌<◌, ◌≤◌}
use Rattle.std.proofs.Math.Numerals.{add-one}
use native.Mathlib.Omega.{arith}
use Rattle.std.specs.Prelude.{◌≡◌, Bool, ◌||◌, drop, Float}
use Rattle.std.proofs.Math.Path.{refl, ap}
use Rattle.std.proofs.Common.{sym, ◌∙◌, true≢false, take-append-drop, drop_of_length-le}
use Rattle.std.proofs.Math.Bool.{true, false, cond}
use mathlib.Core.List.{List, [], ◌∷◌, ◌++◌, append_assoc}
use Rattle.std.proofs.Math.Option
use Rattle.std.proofs.Math.Option.{Option, some}
use Rattle.std.proofs.Math.ListN.{length, get_or, take, set}
use Rattle.std.proofs.Math.Seq.{take-suc, drop-cons, set_at, length-take-le}
use Rattle.std.proofs.lemmas.List.{get_or_at}
use Rattle.std.specs.Float.Ieee.{nan, lt, neg, of_bits}
use Rattle.job.specs.Float.{one}
use Rattle.draws.specs.Draws.{unit_of, running_sums_of, is_positive, place_of}
use Rattle.draws.specs.Known.{below_unit, any_positive_of}
use Rattle.draws.proofs.Laws.Unit.{unit_above, unit_within}
use Rattle.draws.proofs.Laws.Places.{sums_length, chosen_in, place_over, place_here, place_last}
use Rattle.noise.specs.Kinds.{PlacesBy}
use Rattle.choice.specs.Choice.{minus_one_of, marked, marked_by}

-- the mark, as the code writes it
pub minus_one : neg one ≡ minus_one_of
unfolding neg of_bits
minus_one = refl

-- ---- marking, by places

-- nothing is marked at the end, and all at the beginning
pub marked_none : (ws l : List Float) (i : ℕ) → i ≡ length ws → length l ≡ length ws
    → (l ≡ take i l ++ marked_by (drop i ws) (drop i l)) × (false ≡ any_positive_of (drop i ws))
unfolding marked_by any_positive_of
marked_none ws l i e same =
    let past : length ws ≤ i = omega arith in
    let none : drop i ws ≡ [] = drop_of_length-le ws past in
    (rw none (sym (take-append-drop i l)), rw none)

-- one place before those that are marked
module _ (ws l sums : List Float) (later : Bool) (k i : ℕ) (h : k ≡ i + 1) (within : i < length ws) (e : later ≡ any_positive_of (drop k ws)) where
  pub mark_step : length l ≡ length ws → sums ≡ take k l ++ marked_by (drop k ws) (drop k l)
      → set sums i (marked (get_or ws i nan) (get_or sums i nan) later) ≡ take i l ++ marked_by (drop i ws) (drop i l)
  unfolding marked_by
  mark_step same q =
      let x = get_or l i nan in
      let rest = marked_by (drop (suc i) ws) (drop (suc i) l) in
      let size : length (take i l) ≡ i = length-take-le i l (omega arith) in
      let split : sums ≡ take i l ++ x ∷ rest =
      q ∙ rw (h, add-one, take-suc l i nan (omega arith)) (append_assoc (take i l) (x ∷ []) rest) in
      let mark = marked (get_or ws i nan) x later in
      let head : mark ∷ rest ≡ marked_by (drop i ws) (drop i l) = rw (e, h, add-one, drop-cons ws i nan within, drop-cons l i nan (omega arith)) in
      ap (λ (y : List Float). set y i (marked (get_or ws i nan) (get_or y i nan) later)) split
      ∙ ap (λ (y : Float). set (take i l ++ x ∷ rest) i (marked (get_or ws i nan) y later)) (get_or_at (take i l) x rest nan i size)
      ∙ set_at (take i l) x rest mark i size
      ∙ ap (λ (y : List Float). take i l ++ y) head

  pub positive_step : (later || is_positive (get_or ws i nan)) ≡ any_positive_of (drop i ws)
  unfolding any_positive_of
  positive_step = rw (e, h, add-one, drop-cons ws i nan within)

-- ---- the place

marked_length : (ws sums : List Float) → length sums ≡ length ws → length (marked_by ws sums) ≡ length ws
unfolding marked_by
marked_length [] sums l = l
marked_length (w ∷ ws) [] l = l
marked_length (w ∷ ws) (s ∷ sums) l = ap suc (marked_length ws sums (omega arith))

-- the place that is chosen is the number of marked sums below u
pub record PlaceIn (u : Float) (ws sums : List Float) : Type 0 where
  pub is : chosen_in u ws sums ≡ some (below_unit u (marked_by ws sums))
  pub below : below_unit u (marked_by ws sums) < length ws

less : (c : Bool) (k : ℕ) {n : ℕ} → k < n → cond c (suc k) 0 < suc n
less true k h = omega arith
less false k h = omega arith

module _ (u : Float) (above : lt minus_one_of u ≡ true) (within : lt one u ≡ false) where
  place_in : (ws sums : List Float) → length sums ≡ length ws → any_positive_of ws ≡ true → PlaceIn u ws sums
  unfolding any_positive_of
  place_in [] sums l e = absurd (true≢false (sym e))
  place_in (w ∷ ws) [] l e = absurd (omega arith)
  place_in (w ∷ ws) (s ∷ sums) l e = go (is_positive w) refl (any_positive_of ws) refl e (place_in ws sums (omega arith))
    where
      go : (b : Bool) → is_positive w ≡ b → (c : Bool) → any_positive_of ws ≡ c → c || b ≡ true → (any_positive_of ws ≡ true → PlaceIn u ws sums)
          → PlaceIn u (w ∷ ws) (s ∷ sums)
      go false p false q e ih = absurd (true≢false (sym e))
      go false p true q e ih =
          let r = ih q in
          let over : below_unit u (marked_by (w ∷ ws) (s ∷ sums)) ≡ suc (below_unit u (marked_by ws sums)) = unfold marked_by marked below_unit in rw (p, above) in
          record { is = place_over u w s ws sums p _ r.is ∙ ap some (sym over); below = omega (arith, r.below) }
      go true p true q e ih =
          let r = ih q in
          let here : below_unit u (marked_by (w ∷ ws) (s ∷ sums)) ≡ cond (lt s u) (suc (below_unit u (marked_by ws sums))) 0 =
          unfold marked_by marked below_unit in
          rw (p, q) in
          record { is = place_here u w s ws sums p _ r.is ∙ ap some (sym here); below = rw here (less (lt s u) _ r.below) }
      go true p false q e ih =
          let last : below_unit u (marked_by (w ∷ ws) (s ∷ sums)) ≡ 0 = unfold marked_by marked below_unit in rw (p, q, within) in
          record { is = place_last u w s ws sums p q ∙ ap some (sym last); below = omega arith }

pub marked_places : (ws : List Float) → any_positive_of ws ≡ true → PlacesBy ws (marked_by ws (running_sums_of ws))
unfolding place_of
marked_places ws e =
    record {
      is = λ w h.
          let p = place_in (unit_of w) (unit_above w h) (unit_within w h) ws (running_sums_of ws) (sums_length ws) e in
          let n = marked_length ws (running_sums_of ws) (sums_length ws) in
          omega (arith, p.below) ∙ ap (λ (o : Option ℕ). Option.get_or o 0) (sym p.is);
    }
