-- Weights, summed and running. Laws. Assumes nothing.
use Rattle.std.specs.Prelude.{ℕ, suc, ◌+◌, ◌-◌, ◌<◌, ◌≤◌, ◌≡◌, refl, Bool, true, false, List, ◌++◌, length, get_or, take, drop, set, Float}
use Rattle.std.proofs.Common.{add-one, arith, sym, ap, ◌∙◌, append_assoc, append-nil, drop_of_length-le, drop-cons, take_all, take-suc-set}
use mir.Val.{bool_byte}
use Rattle.std.specs.Float.{nan, binary64}
use Rattle.std.specs.Float.Ieee.{add, div, lt}
use Rattle.job.specs.Float.{zero_float, one, total_from}
use Rattle.draws.specs.Draws.{running_from, running_sums_of}
use Rattle.draws.specs.Known.{below_unit, rust_place}

-- ---- the total

-- one more weight, by its place, and no weight left
pub total_step : (s : Float) (ws : List Float) (i : ℕ) → i < length ws
    → total_from (add binary64 s (get_or ws i nan)) (drop (i + 1) ws) ≡ total_from s (drop i ws)
unfolding total_from
total_step s ws i h = rw (add-one, drop-cons ws i nan)

pub total_end : (s : Float) (ws : List Float) (i : ℕ) → length ws ≤ i → total_from s (drop i ws) ≡ s
unfolding total_from
total_end s ws i h = rw (drop_of_length-le ws h)

-- ---- running sums

-- one more running sum, stored at its place
pub running_step : (t s : Float) (ws sums : List Float) (i : ℕ) → i < length ws → i < length sums
    → take (i + 1) (set sums i (add binary64 s (div binary64 (get_or ws i nan) t)))
    ++ running_from t (add binary64 s (div binary64 (get_or ws i nan) t)) (drop (i + 1) ws)
    ≡ take i sums ++ running_from t s (drop i ws)
unfolding running_from
running_step t s ws sums i h k = rw (add-one, take-suc-set, append_assoc, drop-cons ws i nan)

-- with no weight left, the stored sums are all of them, and the last is set to 1.0
pub running_end : (t s : Float) (ws sums : List Float) (i : ℕ) → length sums ≡ length ws → length ws ≤ i → t ≡ total_from zero_float ws
    → take i sums ++ running_from t s (drop i ws) ≡ running_from t zero_float ws → set sums (length ws - 1) one ≡ running_sums_of ws
unfolding running_from
running_end t s ws sums i l h total e =
    let stored : take i sums ≡ sums = take_all i sums (omega arith) in
    let whole : sums ≡ running_from t zero_float ws = sym stored ∙ sym (append-nil (take i sums)) ∙ (rw (drop_of_length-le ws h) at e) in
    ap (λ (x : List Float). set x (length ws - 1) one) (whole ∙ ap (λ (x : Float). running_from x zero_float ws) total)

-- ---- running sums below u

-- one that is, and one that is not
below_here : (u : Float) (sums : List Float) (i : ℕ) → i < length sums → lt (get_or sums i nan) u ≡ true
    → below_unit u (drop i sums) ≡ suc (below_unit u (drop (i + 1) sums))
unfolding below_unit
below_here u sums i h e = rw (drop-cons sums i nan, e, add-one)

above_here : (u : Float) (sums : List Float) (i : ℕ) → i < length sums → lt (get_or sums i nan) u ≡ false → below_unit u (drop i sums) ≡ 0
unfolding below_unit
above_here u sums i h e = rw (drop-cons sums i nan, e)

-- all before place i are, and the last is not among them
pub record BelowUpTo (u : Float) (sums : List Float) (i : ℕ) : Type 0 where
  pub within : i ≤ length sums - 1
  pub same : i + below_unit u (drop i sums) ≡ below_unit u sums

pub below_none : {u : Float} {sums : List Float} → BelowUpTo u sums 0
below_none = record { within = omega arith; same = omega arith }

module _ {u : Float} {sums : List Float} {i : ℕ} (q : BelowUpTo u sums i) where
  -- one more
  pub below_more : i + 1 < length sums → lt (get_or sums i nan) u ≡ true → BelowUpTo u sums (i + 1)
  below_more h e = record { within = omega arith; same = omega (arith, q.same, below_here u sums i (omega arith) e) }

  -- one that is not, and the last
  pub below_stops : i < length sums → lt (get_or sums i nan) u ≡ false → i ≡ rust_place u sums
  below_stops h e = omega (arith, q.within, q.same, above_here u sums i h e)

  pub below_last : length sums - i ≤ 1 → i ≡ rust_place u sums
  below_last h = omega (arith, q.within, q.same)

-- of two that are left, the first is taken or the last
pub below_two : {u : Float} {sums : List Float} {i : ℕ} → BelowUpTo u sums i → 1 < length sums - i → length sums - i ≤ 2
    → i + bool_byte (lt (get_or sums i nan) u) ≡ rust_place u sums
below_two {u} {sums} {i} q h k = go (lt (get_or sums i nan) u) refl
  where
    go : (b : Bool) → lt (get_or sums i nan) u ≡ b → i + bool_byte b ≡ rust_place u sums
    go true e = below_last (below_more q (omega arith) e) (omega arith)
    go false e = omega (arith, below_stops q (omega arith) e)
