-- A fault falls where floor(w / 2048) is below the threshold of p. Laws. Assumes nothing.
use Rattle.std.specs.Prelude.{◌≡◌, ℕ, suc, ◌+◌, ◌-◌, ◌*◌, ◌/◌, ◌^◌, ◌<◌, ◌≤◌, min, Bool, true, false, not, ℤ, nat_lt, refl, Float}
use Rattle.std.proofs.Common.{sym, ◌∙◌, true≢false, le-div_iff_mul-le, div-lt_iff_lt-mul, suc-mul, arith, ltb-true, lt-ltb, le-ltb}
use Rattle.std.specs.Float.{nan, inf, fin}
use Rattle.std.specs.Float.Ieee.{lt, up, down}
use Rattle.std.specs.Float.Ieee.Fits.{down_pos}
use Rattle.std.specs.Float.Ieee.Exact.{HasValue}
use Rattle.draws.specs.Draws.{unit_of, falls}
use Rattle.draws.proofs.Laws.Unit.{unit_exact, falls_exact}
use Rattle.fault_scan.specs.Scan.{ceiling, threshold_of}

-- two tests are one where each holds with the other
same_test : (x y u v : ℕ) → (x < y → u < v) → (u < v → x < y) → nat_lt x y ≡ nat_lt u v
same_test x y u v f g = go (nat_lt x y) (nat_lt u v) refl refl
  where
    go : (a b : Bool) → nat_lt x y ≡ a → nat_lt u v ≡ b → a ≡ b
    go true true h k = refl
    go false false h k = refl
    go true false h k = sym (lt-ltb u v (f (ltb-true x y h))) ∙ k
    go false true h k = sym h ∙ lt-ltb x y (g (ltb-true u v k))

-- ---- the ceiling of a fraction

module _ (n a c : ℕ) (C : 0 < c) where
  pub ceiling_above : n * c < a → n < ceiling a c
  ceiling_above h = let next : suc n * c ≤ a + (c - 1) = omega (arith, suc-mul n c) in (le-div_iff_mul-le C).1 next

  pub ceiling_below : n < ceiling a c → n * c < a
  ceiling_below h = let next : suc n * c ≤ a + (c - 1) = (le-div_iff_mul-le C).0 h in omega (arith, suc-mul n c)

  pub ceiling_least : a ≤ n * c → ceiling a c ≤ n
  ceiling_least h =
      let next : a + (c - 1) < suc n * c = omega (arith, suc-mul n c) in
      let less : ceiling a c < suc n = (div-lt_iff_lt-mul C).1 next in
      omega arith

capped : (x t : ℕ) → x < 2 ^ 53 → (x < t → x < min t (2 ^ 53)) × (x < min t (2 ^ 53) → x < t)
capped x t h = (λ k. omega arith, λ k. omega arith)

-- ---- u beside what is no fraction

beside_nan : (u : Float) → lt u nan ≡ false
unfolding lt
beside_nan nan = refl
beside_nan (inf s) = refl
beside_nan (fin s m e) = refl

beside_inf : (u : Float) (n d : ℕ) (s : Bool) → HasValue u false n d → lt u (inf s) ≡ not s
unfolding lt
beside_inf nan n d s v = absurd v
beside_inf (inf t) n d s v = absurd v
beside_inf (fin t m e) n d s v = refl

beside_negative : (u : Float) (n d m : ℕ) (e : ℤ) → HasValue u false n d → lt u (fin true m e) ≡ false
unfolding lt
beside_negative nan n d m e v = absurd v
beside_negative (inf t) n d m e v = absurd v
beside_negative (fin true k g) n d m e v = absurd (true≢false v.0)
beside_negative (fin false k g) n d m e v = refl

-- ---- the law

pub threshold_within : (p : Float) → threshold_of p ≤ 2 ^ 53
unfolding threshold_of
threshold_within nan = omega arith
threshold_within (inf true) = omega arith
threshold_within (inf false) = omega arith
threshold_within (fin true m e) = omega arith
threshold_within (fin false m e) = omega arith

-- For every p, NaN and those outside 0 to 1 included.
pub falls_below : (w : ℕ) (p : Float) → w < 2 ^ 64 → falls w p ≡ nat_lt (w / 2048) (threshold_of p)
unfolding threshold_of
falls_below w nan h = beside_nan (unit_of w) ∙ sym (le-ltb (w / 2048) 0 (omega arith))
falls_below w (inf true) h = beside_inf (unit_of w) _ _ true (unit_exact w h) ∙ sym (le-ltb (w / 2048) 0 (omega arith))
falls_below w (inf false) h = beside_inf (unit_of w) _ _ false (unit_exact w h) ∙ sym (lt-ltb (w / 2048) (2 ^ 53) (omega arith))
falls_below w (fin true m e) h = beside_negative (unit_of w) _ _ m e (unit_exact w h) ∙ sym (le-ltb (w / 2048) 0 (omega arith))
falls_below w (fin false m e) h =
    let a = m * up e * 2 ^ 53 in
    let small : w / 2048 < 2 ^ 53 = omega arith in
    let cap = capped (w / 2048) (ceiling a (down e)) small in
    falls_exact w (fin false m e) (m * up e) (down e) h (down_pos e) (refl, refl)
    ∙ same_test (w / 2048 * down e) a (w / 2048) (min (ceiling a (down e)) (2 ^ 53)) (λ l. cap.0 (ceiling_above _ a (down e) (down_pos e) l))
    (λ l. ceiling_below _ a (down e) (down_pos e) (cap.1 l))
