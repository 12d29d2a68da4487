-- Laws: a total above zero has a positive weight in it, since a sum of zeros is zero. Assumes nothing.
use Rattle.std.specs.Prelude.{◌≡◌, Bool, true, false, not, cond, ◌&&◌, ◌||◌, List, [], ◌∷◌, ℕ, ◌*◌, ◌<◌, ◌≤◌, ltb, ℤ, Float}
use Rattle.std.proofs.Math.Path.{refl}
use Rattle.std.proofs.Common.{sym, ap, ◌∙◌, true≢false, zero-mul, mul-pos, mul-one, add-zero, arith, lit<, ltb-false}
use Rattle.std.specs.Bool.{beq}
use Rattle.std.proofs.Math.Nat.{eq_of_mul-eq-mul_right}
use Rattle.std.specs.Float.{nan, inf, fin, binary64}
use Rattle.std.specs.Float.Ieee.{of_bits, round, sum, add, lt, up, down}
use Rattle.std.specs.Float.Ieee.Fits.{down_pos}
use Rattle.std.specs.Float.Ieee.Exact.{HasValue, round_exact}
use Rattle.job.specs.Float.{zero_float, total_from, is_weight_of, is_total}
use Rattle.job.specs.Sound.{Every}
use Rattle.draws.specs.Draws.{is_positive}
use Rattle.draws.specs.Known.{any_positive_of}

-- zero, with either sign
unfoldable IsZero : Float → Type 0
IsZero nan = ⊥
IsZero (inf s) = ⊥
IsZero (fin s m e) = m * up e ≡ 0

pub or_false_left : (a b : Bool) → a || b ≡ false → a ≡ false
or_false_left true b e = absurd (true≢false e)
or_false_left false b e = refl

pub or_false_right : (a b : Bool) → a || b ≡ false → b ≡ false
or_false_right true b e = absurd (true≢false e)
or_false_right false b e = e

value_zero : (x : Float) (s : Bool) (c : ℕ) → 0 < c → HasValue x s 0 c → IsZero x
unfolding IsZero
value_zero nan s c h v = v
value_zero (inf t) s c h v = v
value_zero (fin t m e) s c h v = eq_of_mul-eq-mul_right c h (m * up e) 0 (v.1 ∙ zero-mul (down e) ∙ sym (zero-mul c))

sum_zero : (s t : Bool) (c : ℕ) → 0 < c → IsZero (sum binary64 s 0 t 0 c)
unfolding sum
sum_zero s t c h = go (beq s t)
  where
    rounded : (s : Bool) → IsZero (round binary64 s 0 c)
    rounded s = value_zero (round binary64 s 0 c) s c h (round_exact binary64 s 0 c 0 0 h (lit< tt) (lit< tt) (sym (zero-mul c)))

    go : (b : Bool) → IsZero (cond b (round binary64 s 0 c) (round binary64 (s && false) 0 c))
    go true = rounded s
    go false = rounded (s && false)

add_zeros : (x y : Float) → IsZero x → IsZero y → IsZero (add binary64 x y)
unfolding IsZero add
add_zeros nan y p q = absurd p
add_zeros (inf s) y p q = absurd p
add_zeros (fin s m e) nan p q = absurd q
add_zeros (fin s m e) (inf t) p q = absurd q
add_zeros (fin s m e) (fin t n d) p q =
    let a : m * up e * down d ≡ 0 = ap (λ (k : ℕ). k * down d) p ∙ zero-mul (down d) in
    let b : n * up d * down e ≡ 0 = ap (λ (k : ℕ). k * down e) q ∙ zero-mul (down e) in
    rw (a, b) (sum_zero s t (down e * down d) (mul-pos (down_pos e) (down_pos d)))

-- above zero, by the fraction
positive_fin : (m : ℕ) (e : ℤ) → is_positive (fin false m e) ≡ ltb 0 (m * up e)
unfolding is_positive lt of_bits
positive_fin m e = simp (zero-mul, mul-one)

below_fin : (m : ℕ) (e : ℤ) → lt (fin true m e) zero_float ≡ ltb 0 (m * up e)
unfolding lt of_bits
below_fin m e = simp (zero-mul, mul-one, add-zero)

finite_not : (b c : Bool) → not b && c ≡ true → (b ≡ false) × (c ≡ true)
finite_not true c e = absurd (true≢false (sym e))
finite_not false c e = (refl, e)

none_above : (n : ℕ) → ltb 0 n ≡ false → n ≡ 0
none_above n e = let h : n ≤ 0 = ltb-false 0 n e in omega arith

-- a weight that isn't positive is zero
weight_zero : (w : Float) → is_weight_of w ≡ true → is_positive w ≡ false → IsZero w
unfolding is_weight_of IsZero
weight_zero nan a b = absurd (true≢false (sym (finite_not (lt nan zero_float) false a).1))
weight_zero (inf s) a b = absurd (true≢false (sym (finite_not (lt (inf s) zero_float) false a).1))
weight_zero (fin true m e) a b = none_above (m * up e) (sym (below_fin m e) ∙ (finite_not (lt (fin true m e) zero_float) true a).0)
weight_zero (fin false m e) a b = none_above (m * up e) (sym (positive_fin m e) ∙ b)

total_zero : (t : Float) (ws : List Float) → IsZero t → Every (λ (w : Float). is_weight_of w ≡ true) ws → any_positive_of ws ≡ false → IsZero (total_from t ws)
unfolding total_from any_positive_of
total_zero t [] z v e = z
total_zero t (w ∷ ws) z v e =
    total_zero (add binary64 t w) ws (add_zeros t w z (weight_zero w v.0 (or_false_right (any_positive_of ws) (is_positive w) e))) v.1
    (or_false_left (any_positive_of ws) (is_positive w) e)

zero_total : (t : Float) → IsZero t → is_total t ≡ false
unfolding IsZero is_total is_positive lt of_bits
zero_total nan z = absurd z
zero_total (inf s) z = absurd z
zero_total (fin true m e) z = refl
zero_total (fin false m e) z = rw (positive_fin m e, z) refl

-- so a total above zero has a positive weight in it
pub some_positive : (ws : List Float) → Every (λ (w : Float). is_weight_of w ≡ true) ws → is_total (total_from zero_float ws) ≡ true → any_positive_of ws ≡ true
some_positive ws v t = go (any_positive_of ws) refl
  where
    go : (b : Bool) → any_positive_of ws ≡ b → any_positive_of ws ≡ true
    go true e = e
    go false e =
        unfold of_bits IsZero in
        absurd (true≢false (sym t ∙ zero_total (total_from zero_float ws) (total_zero zero_float ws refl v e)))
