-- The threshold of a p between 0 and 1, from the product p * 2^53, which is exact. Laws. Assumes nothing.
use Rattle.std.specs.Prelude.{◌≡◌, ℕ, zero, suc, ◌+◌, ◌-◌, ◌*◌, ◌/◌, ◌%◌, ◌^◌, ◌<◌, ◌≤◌, min, true, false, ◌&&◌, T, ltb, pos, negsuc, nat_eq, nat_le, nat_lt, refl, Float}
use Rattle.std.proofs.Common.{sym, ap, ◌∙◌, subst, true≢false, lt_of_not-le, not-le_of_lt, lt_of_lt_of_le, lt_of_le_of_lt, le_of_eq, le_of_lt, mul-one, zero-mul, mul_assoc, mul_right_comm, mul-pos, mul-lt-mul_of_pos_right, lt_of_mul-lt-mul_right, mul-div_cancel, div-mul-le_self, div-lt_iff_lt-mul, le-div_iff_mul-le, arith, ltb→lt, leb→le, lt→ltb, lit<, pow-add, pow_pos, pow_mono, shl_lt, ltb-true, ltb-false}
use Rattle.std.proofs.lemmas.Bool.{false≢true}
use Rattle.std.proofs.Math.Pow.{pow-lt}
use Rattle.std.specs.Float.{nan, inf, fin, binary64}
use Rattle.std.specs.Float.Ieee.{of_bits, mul, lt, fits, to_unsigned, up, down}
use Rattle.std.specs.Float.Ieee.Fits.{down_pos, and_l, and_r}
use Rattle.std.specs.Float.Ieee.Exact.{HasValue, round_exact}
use Rattle.std.specs.Float.Ieee.Nearest.{div_same}
use Rattle.job.specs.Float.{float, zero_float, one}
use Rattle.draws.specs.Draws.{falls}
use Rattle.draws.proofs.Laws.Unit.{falls_exact}
use Rattle.fault_scan.specs.Scan.{ceiling, threshold_of}
use Rattle.fault_scan.specs.Laws.Threshold.{ceiling_above, ceiling_least}

-- ---- p that is no fraction between 0 and 1

-- not above zero: no word brings a fault
pub threshold_none : (p : Float) → lt zero_float p ≡ false → 0 ≡ threshold_of p
unfolding threshold_of lt of_bits
threshold_none nan h = refl
threshold_none (inf true) h = refl
threshold_none (inf false) h = absurd (true≢false h)
threshold_none (fin true m e) h = refl
threshold_none (fin false m e) h =
    let nothing : m * up e * 1 ≤ 0 * down e = ltb-false (0 * down e) (m * up e * 1) h in
    let c = ceiling (m * up e * 2 ^ 53) (down e) in
    let least : c ≤ 0 = ceiling_least 0 (m * up e * 2 ^ 53) (down e) (down_pos e) (omega (arith, zero-mul (down e))) in
    omega (arith, least)

-- not below 1: every word does
pub threshold_all : (p : Float) → lt zero_float p ≡ true → lt p one ≡ false → 2 ^ 53 ≡ threshold_of p
unfolding threshold_of lt of_bits
threshold_all nan h k = absurd (false≢true h)
threshold_all (inf true) h k = absurd (false≢true h)
threshold_all (inf false) h k = refl
threshold_all (fin true m e) h k = absurd (false≢true h)
threshold_all (fin false m e) h k =
    let reaches : 1 * down e ≤ m * up e * 1 = ltb-false (m * up e * 1) (1 * down e) k in
    let top : 2 ^ 53 - 1 < ceiling (m * up e * 2 ^ 53) (down e) =
    ceiling_above (2 ^ 53 - 1) (m * up e * 2 ^ 53) (down e) (down_pos e) (omega (arith, down_pos e)) in
    omega (arith, top)

-- ---- p between 0 and 1

-- p * 2^53
abbrev pub product : Float → Float
product p = mul binary64 p (float 0x4340_0000_0000_0000)

-- p is n / c, and the product has lost nothing
pub record Fraction (p : Float) : Type 0 where
  pub n : ℕ
  pub c : ℕ
  pub positive : 0 < c
  pub under : n < c
  pub value : HasValue p false n c
  pub scaled : HasValue (product p) false (n * 2 ^ 53) c
  pub threshold : threshold_of p ≡ min (ceiling (n * 2 ^ 53) c) (2 ^ 53)

regroup : (m a b d : ℕ) → m * 1 * a * (b * d) ≡ m * (a * b) * (d * 1)
regroup m a b d = simp (mul-one, mul_assoc)

exact : (m k : ℕ) → m < 2 ^ 53 → suc k ≤ 1074 → HasValue (product (fin false m (negsuc k))) false (m * 1 * 2 ^ 53) (2 ^ suc k)
unfolding mul of_bits
exact m k digits places =
    let i = 1074 - suc k in
    let short : 53 + (53 + i) ≤ 2098 = omega arith in
    let room : m * 2 ^ (53 + i) < 2 ^ 2098 = lt_of_lt_of_le (shl_lt 53 (53 + i) digits) (pow_mono short) in
    let all : 1074 ≡ i + suc k = omega arith in
    let unit : 2 ^ 1074 ≡ 2 ^ i * 2 ^ suc k = ap (λ (x : ℕ). 2 ^ x) all ∙ pow-add 2 i (suc k) in
    let same : m * 1 * 2 ^ 53 * 2 ^ 1074 ≡ m * 2 ^ (53 + i) * (2 ^ suc k * 1) =
    ap (λ (x : ℕ). m * 1 * 2 ^ 53 * x) unit
    ∙ regroup m (2 ^ 53) (2 ^ i) (2 ^ suc k)
    ∙ ap (λ (x : ℕ). m * x * (2 ^ suc k * 1)) (sym (pow-add 2 53 i)) in
    subst (HasValue (product (fin false m (negsuc k))) false (m * 1 * 2 ^ 53)) (mul-one (2 ^ suc k))
    (round_exact binary64 false (m * 1 * 2 ^ 53) (2 ^ suc k * 1) m (53 + i) (mul-pos (pow_pos (suc k)) (lit< tt)) digits room same)

-- what the format says of the fraction
held : (m k : ℕ) → T (fits binary64 (fin false (suc m) (negsuc k))) → (suc m < 2 ^ 53) × (2 ^ suc k ≤ 2 ^ 1074)
unfolding fits
held m k f =
    let o = nat_eq (suc m % 2) 1 in
    let d = ltb (suc m) (2 ^ 53) in
    let l = nat_le (2 ^ suc k) (2 ^ 1074) in
    let t : T (o && d && l) = and_l (o && d && l) (nat_lt (suc m * 1) (2 ^ 1024 * 2 ^ suc k)) f in
    (ltb→lt (suc m) (2 ^ 53) (and_r o d (and_l (o && d) l t)), leb→le (2 ^ suc k) (2 ^ 1074) (and_r (o && d) l t))

few_places : (k : ℕ) → 2 ^ suc k ≤ 2 ^ 1074 → suc k ≤ 1074
few_places k h = lt_of_not-le (λ (g : 1074 ≤ k). let more : 1074 < suc k = omega arith in not-le_of_lt (pow-lt more) h)

pub fraction : (p : Float) → T (fits binary64 p) → lt zero_float p ≡ true → lt p one ≡ true → Fraction p
unfolding lt of_bits threshold_of
fraction nan f h k = absurd (false≢true h)
fraction (inf true) f h k = absurd (false≢true h)
fraction (inf false) f h k = absurd (false≢true k)
fraction (fin true m e) f h k = absurd (false≢true h)
fraction (fin false m (pos i)) f h k =
    let some : 0 < m * 2 ^ i * 1 = ltb-true 0 (m * 2 ^ i * 1) h in
    let less : m * 2 ^ i * 1 < 1 = ltb-true (m * 2 ^ i * 1) 1 k in
    absurd (omega arith)
fraction (fin false zero (negsuc i)) f h k = let some : 0 * 2 ^ suc i < 0 = ltb-true (0 * 2 ^ suc i) 0 h in absurd (omega arith)
fraction (fin false (suc m) (negsuc i)) f h k =
    let less : suc m * 1 * 1 < 1 * 2 ^ suc i = ltb-true (suc m * 1 * 1) (1 * 2 ^ suc i) k in
    record {
      n = suc m * 1;
      c = 2 ^ suc i;
      positive = pow_pos (suc i);
      under = omega arith;
      value = (refl, refl);
      scaled = exact (suc m) i (held m i f).0 (few_places i (held m i f).1);
      threshold = refl;
    }

-- ---- x is a / c, which is not negative and below 2^53

above_minus_one : (x : Float) (a c : ℕ) → HasValue x false a c → T (lt (fin true 1 (pos 0)) x)
unfolding lt
above_minus_one nan a c v = absurd v
above_minus_one (inf s) a c v = absurd v
above_minus_one (fin true m e) a c v = absurd (true≢false v.0)
above_minus_one (fin false m e) a c v = lt→ltb 0 (1 * down e + m * up e * 1) (omega (arith, down_pos e))

below_range : (x : Float) (a c : ℕ) → a < 2 ^ 53 * c → HasValue x false a c → T (lt x (fin false 1 (pos 64)))
unfolding lt
below_range nan a c less v = absurd v
below_range (inf s) a c less v = absurd v
below_range (fin true m e) a c less v = absurd (true≢false v.0)
below_range (fin false m e) a c less v =
    let d = down e in
    let h : m * up e < 2 ^ 53 * d =
    lt_of_mul-lt-mul_right c
    (lt_of_le_of_lt (le_of_eq v.1) (lt_of_lt_of_le (mul-lt-mul_of_pos_right less (down_pos e)) (le_of_eq (mul_right_comm (2 ^ 53) c d)))) in
    lt→ltb (m * up e * 1) (2 ^ 64 * d) (omega arith)

whole_part : (x : Float) (a c : ℕ) → 0 < c → a < 2 ^ 53 * c → HasValue x false a c → to_unsigned 64 x ≡ a / c
unfolding to_unsigned
whole_part nan a c C less v = absurd v
whole_part (inf s) a c C less v = absurd v
whole_part (fin true m e) a c C less v = absurd (true≢false v.0)
whole_part (fin false m e) a c C less v =
    let cut : m * up e / down e ≡ a / c = div_same (m * up e) (down e) a c (down_pos e) C v.1 in
    let small : a / c < 2 ^ 53 = (div-lt_iff_lt-mul C).1 less in
    omega (arith, cut, small)

-- ---- what the code does with the product

module _ {p : Float} (q : Fraction p) where
  abbrev a : ℕ
  a = q.n * 2 ^ 53

  less : a < 2 ^ 53 * q.c
  less = omega (arith, q.under)

  pub product_above : T (lt (fin true 1 (pos 0)) (product p))
  product_above = above_minus_one (product p) a q.c q.scaled

  pub product_below : T (lt (product p) (fin false 1 (pos 64)))
  product_below = below_range (product p) a q.c less q.scaled

  module _ (w : ℕ) (e : w ≡ to_unsigned 64 (product p)) where
    cut : w ≡ a / q.c
    cut = e ∙ whole_part (product p) a q.c q.positive less q.scaled

    pub whole_within : w < 2 ^ 53
    whole_within = let small : a / q.c < 2 ^ 53 = (div-lt_iff_lt-mul q.positive).1 less in omega (arith, cut)

    tested : falls (w * 2048) p ≡ nat_lt (w * q.c) a
    tested =
        let word : w * 2048 < 2 ^ 64 = omega (arith, whole_within) in
        falls_exact (w * 2048) p q.n q.c word q.positive q.value ∙ ap (λ (x : ℕ). ltb (x * q.c) a) (mul-div_cancel w (lit< tt))

    pub threshold_next : falls (w * 2048) p ≡ true → w + 1 ≡ threshold_of p
    threshold_next f =
        let above : w < ceiling a q.c = ceiling_above w a q.c q.positive (ltb-true (w * q.c) a (sym tested ∙ f)) in
        let quotient : a / q.c < w + 1 = omega (arith, cut) in
        let next : a < (w + 1) * q.c = (div-lt_iff_lt-mul q.positive).0 quotient in
        let least : ceiling a q.c ≤ w + 1 = ceiling_least (w + 1) a q.c q.positive (le_of_lt next) in
        omega (arith, whole_within, q.threshold)

    pub threshold_whole : falls (w * 2048) p ≡ false → w ≡ threshold_of p
    threshold_whole f =
        let least : ceiling a q.c ≤ w = ceiling_least w a q.c q.positive (ltb-false (w * q.c) a (sym tested ∙ f)) in
        let whole : w * q.c ≤ a = subst (λ (x : ℕ). x * q.c ≤ a) (sym cut) (div-mul-le_self a q.c) in
        let some : w * q.c ≤ a + (q.c - 1) = omega (arith, whole) in
        let reached : w ≤ ceiling a q.c = (le-div_iff_mul-le q.positive).1 some in
        omega (arith, whole_within, q.threshold)
