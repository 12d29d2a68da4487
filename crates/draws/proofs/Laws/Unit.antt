-- Laws: u is exact in binary64, so it lies from 0 to 1, and a fault falls where the fraction is below p. Assumes nothing.
use Rattle.std.specs.Prelude.{◌≡◌, refl, Bool, true, false, ℕ, ◌+◌, ◌*◌, ◌/◌, ◌^◌, ◌<◌, ◌≤◌, ltb, pos, Float}
use Rattle.std.proofs.Common.{sym, ◌∙◌, subst, true≢false, mul_assoc, mul_comm, mul-one, one-mul, mul-pos, mul-lt-mul_of_pos_right, lt_of_lt_of_le, le_of_lt, arith, lit<, lit≤, pow_pos}
use Rattle.std.specs.Float.{nan, inf, fin, binary64}
use Rattle.std.specs.Float.Ieee.{of_bits, round, of_int, div, lt, up, down}
use Rattle.std.specs.Float.Ieee.Fits.{down_pos}
use Rattle.std.specs.Float.Ieee.Exact.{HasValue, round_exact}
use Rattle.std.specs.Float.Ieee.Back.{round_whole}
use Rattle.std.specs.Float.Ieee.Scale.{round_same}
use Rattle.std.specs.Float.Ieee.Order.{transfer}
use borrow.Author.Tests.{ltb-true, ltb-false, lt-ltb, le-ltb}
use Rattle.job.specs.Float.{float, one}
use Rattle.draws.specs.Draws.{unit_of, falls}

-- x / 2 ^ 53, where x is the whole number n, is the fraction n / 2 ^ 53
scaled : (x : Float) (n : ℕ) → n < 2 ^ 53 → HasValue x false n 1 → HasValue (div binary64 x (fin false 1 (pos 53))) false n (2 ^ 53)
unfolding div
scaled nan n h v = absurd v
scaled (inf s) n h v = absurd v
scaled (fin true m e) n h v = absurd (true≢false v.0)
scaled (fin false m e) n h v =
    let value : m * up e ≡ n * down e = sym (mul-one (m * up e)) ∙ v.1 in
    let same : m * up e * 1 * 2 ^ 53 ≡ n * (1 * 2 ^ 53 * down e) = rw (mul-one, value) (simp (one-mul, mul_assoc, mul_comm)) in
    let room : n * 2 ^ 1021 < 2 ^ 2098 = lt_of_lt_of_le (mul-lt-mul_of_pos_right h (pow_pos 1021)) (lit≤ tt) in
    let exact : HasValue (round binary64 false n (2 ^ 53)) false n (2 ^ 53) =
    round_exact binary64 false n (2 ^ 53) n 1021 (lit< tt) h room (sym (mul_assoc n (2 ^ 1021) (2 ^ 53))) in
    let is : round binary64 false (m * up e * 1) (1 * 2 ^ 53 * down e) ≡ round binary64 false n (2 ^ 53) =
    round_same binary64 false (m * up e * 1) (1 * 2 ^ 53 * down e) n (2 ^ 53) (mul-pos (lit< tt) (down_pos e)) (lit< tt) same in
    subst (λ (z : Float). HasValue z false n (2 ^ 53)) (sym is) exact

-- Nothing is lost: u is finite, not negative, and exactly the fraction floor(w / 2048) / 2 ^ 53.
pub unit_exact : (w : ℕ) → w < 2 ^ 64 → HasValue (unit_of w) false (w / 2048) (2 ^ 53)
unfolding unit_of of_int
unit_exact w h =
    let small : w / 2048 < 2 ^ 53 = omega arith in
    scaled (round binary64 false (w / 2048) 1) (w / 2048) small (round_whole binary64 false (w / 2048) (le_of_lt small))

-- two tests are one where each holds with the other
same_test : (x y u v : ℕ) → (y ≤ x → v ≤ u) → (v ≤ u → y ≤ x) → ltb x y ≡ ltb u v
same_test x y u v f g = go (ltb x y) (ltb u v) refl refl
  where
    go : (a b : Bool) → ltb x y ≡ a → ltb u v ≡ b → ltb x y ≡ ltb u v
    go true true p q = p ∙ sym q
    go false false p q = p ∙ sym q
    go true false p q = let l : x < y = ltb-true x y p in let m : y ≤ x = g (ltb-false u v q) in absurd (omega arith)
    go false true p q = let l : u < v = ltb-true u v q in let m : v ≤ u = f (ltb-false x y p) in absurd (omega arith)

compared : (x p : Float) (n d a c : ℕ) → 0 < d → 0 < c → HasValue x false n d → HasValue p false a c → lt x p ≡ ltb (n * c) (a * d)
unfolding lt
compared nan p n d a c D C v w = absurd v
compared (inf s) p n d a c D C v w = absurd v
compared (fin true m e) p n d a c D C v w = absurd (true≢false v.0)
compared (fin false m e) nan n d a c D C v w = absurd w
compared (fin false m e) (inf t) n d a c D C v w = absurd w
compared (fin false m e) (fin true m' e') n d a c D C v w = absurd (true≢false w.0)
compared (fin false m e) (fin false m' e') n d a c D C v w =
    same_test (m * up e * down e') (m' * up e' * down e) (n * c) (a * d)
    (λ h. transfer a n c d (m' * up e') (m * up e) (down e') (down e) (down_pos e') (down_pos e) (sym w.1) (sym v.1) h)
    (λ h. transfer (m' * up e') (m * up e) (down e') (down e) a n c d C D w.1 v.1 h)

-- So for a probability p that is the fraction a / c, a fault falls where floor(w / 2048) / 2 ^ 53 < a / c, in whole numbers.
pub falls_exact : (w : ℕ) (p : Float) (a c : ℕ) → w < 2 ^ 64 → 0 < c → HasValue p false a c → falls w p ≡ ltb (w / 2048 * c) (a * 2 ^ 53)
falls_exact w p a c h C v = compared (unit_of w) p (w / 2048) (2 ^ 53) a c (lit< tt) C (unit_exact w h) v

-- u lies above -1.0, and not above 1.0.
pub unit_above : (w : ℕ) → w < 2 ^ 64 → lt (float 0xbff0_0000_0000_0000) (unit_of w) ≡ true
unit_above w h = go (unit_of w) (unit_exact w h)
  where
    go : (x : Float) → HasValue x false (w / 2048) (2 ^ 53) → lt (float 0xbff0_0000_0000_0000) x ≡ true
    go nan v = absurd v
    go (inf s) v = absurd v
    go (fin true m e) v = absurd (true≢false v.0)
    go (fin false m e) v = unfold lt of_bits in lt-ltb 0 (1 * down e + m * up e * 1) (omega (arith, down_pos e))

pub unit_within : (w : ℕ) → w < 2 ^ 64 → lt one (unit_of w) ≡ false
unfolding of_bits
unit_within w h =
    compared one (unit_of w) 1 1 (w / 2048) (2 ^ 53) (lit< tt) (lit< tt) (refl, refl) (unit_exact w h)
    ∙ le-ltb (1 * 2 ^ 53) (w / 2048 * 1) (omega arith)
