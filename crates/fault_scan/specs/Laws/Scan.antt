-- Words gone over for the next fault. Laws. Assumes nothing.
use Rattle.std.specs.Prelude.{◌≡◌, ℕ, zero, suc, ◌+◌, ◌-◌, ◌/◌, ◌%◌, ◌^◌, ◌<◌, ◌≤◌, min, Bool, true, false, cond, ltb, List, ◌++◌, length, drop, bit_or, nat_le, nat_lt, slice_index, refl, Float}
use Rattle.std.proofs.Common.{zero-add, add-zero, add_assoc, add-one, arith, sym, ap, subst, ◌∙◌, ltb-true, ltb-false, le-leb}
use Rattle.std.proofs.Math.Nat.{sub-zero}
use Rattle.std.specs.Int.Bits.{or_add_and}
use Rattle.std.proofs.lemmas.Nat.{and_le_l, and_le_r}
use Rattle.std.proofs.lemmas.Bool.{lt-leb}
use Rattle.draws.specs.Draws.{falls}
use Rattle.noise.specs.Words.{skip_of}
use Rattle.fault_scan.specs.Scan.{threshold_of, Quiet, Passed, Stopped, Skipped}
use Rattle.noise.specs.Laws.Words.{both_first, both_second, skip_done, skip_stops, skip_more, skip_end}
use Rattle.fault_scan.specs.Laws.Threshold.{threshold_within, falls_below}

-- ---- a word beside the threshold

module _ (w t : ℕ) (word : w < 2 ^ 64) (p : Float) (e : t ≡ threshold_of p) where
  pub below_falls : ltb (w / 2048) t ≡ falls w p
  below_falls = ap (ltb (w / 2048)) e ∙ sym (falls_below w p word)

  -- the top bit of a difference that wraps
  pub top_falls : (r : ℕ) → r < 2 ^ 64 → (r + t) % 2 ^ 64 ≡ w / 2048 → nat_le (2 ^ 63) r ≡ falls w p
  top_falls r h d = go (nat_lt (w / 2048) t) refl ∙ below_falls
    where
      go : (b : Bool) → nat_lt (w / 2048) t ≡ b → nat_le (2 ^ 63) r ≡ b
      go true l =
          let less : w / 2048 < t = ltb-true (w / 2048) t l in
          le-leb (2 ^ 63) r (omega (arith, less, e, threshold_within p))
      go false l =
          let more : t ≤ w / 2048 = ltb-false (w / 2048) t l in
          lt-leb (2 ^ 63) r (omega (arith, more, e, threshold_within p))

-- ---- words that bring no fault

pub quiet_none : {p : Float} {words : List ℕ} {at : ℕ} → Quiet p words at 0
quiet_none = record { none = λ j h. absurd (omega arith) }

-- one word
pub quiet_one : {p : Float} {words : List ℕ} (at : ℕ) → falls (slice_index words at) p ≡ false → Quiet p words at 1
quiet_one {p} {words} at f = record {
  none = λ j h. let here : at ≡ at + j = omega arith in subst (λ (x : ℕ). falls (slice_index words x) p ≡ false) here f;
}

module _ {p : Float} {words : List ℕ} {at : ℕ} where
  -- so many, and then more
  pub quiet_then : {i k : ℕ} → Quiet p words at i → Quiet p words (at + i) k → Quiet p words at (i + k)
  quiet_then {i} {k} first second = record { none = λ j h. go j h (nat_lt j i) refl }
    where
      go : (j : ℕ) → j < i + k → (b : Bool) → nat_lt j i ≡ b → falls (slice_index words (at + j)) p ≡ false
      go j h true l = first.none j (ltb-true j i l)
      go j h false l =
          let later : i ≤ j = ltb-false j i l in
          let place : at + i + (j - i) ≡ at + j = omega arith in
          subst (λ (x : ℕ). falls (slice_index words x) p ≡ false) place (second.none (j - i) (omega arith))

  -- one more
  pub quiet_more : {i : ℕ} → Quiet p words at i → falls (slice_index words (at + i)) p ≡ false → Quiet p words at (i + 1)
  quiet_more {i} q f = quiet_then q (quiet_one (at + i) f)

  -- and a fault after them
  pub stopped_then : {n i k : ℕ} → i ≤ n → Quiet p words at i → Stopped p words (at + i) (n - i) k → Stopped p words at n (i + k)
  stopped_then {n} {i} {k} h first second =
      record {
        within = omega (arith, second.within);
        quiet = quiet_then first second.quiet;
        falling = λ l. subst (λ (x : ℕ). falls (slice_index words x) p ≡ true) (add_assoc at i k) (second.falling (omega arith));
      }

-- fewer than eight of those that are left
pub stopped_near : {p : Float} {words : List ℕ} {at n m r : ℕ} → m ≡ min n 8 → Stopped p words at m r → r < 8 → Stopped p words at n r
stopped_near e q h = record { within = omega (arith, q.within); quiet = q.quiet; falling = λ l. q.falling (omega (arith, e)) }

-- ---- words passed over

module _ {t : ℕ} {words : List ℕ} {at : ℕ} where
  pub passed_none : {n : ℕ} → Passed t words at n 0
  passed_none = record { within = omega arith; quiet = λ p e. quiet_none }

  pub passed_then : {n i k : ℕ} → Passed t words at n i → Passed t words (at + i) (n - i) k → Passed t words at n (i + k)
  passed_then {n} {i} {k} first second =
      record { within = omega (arith, first.within, second.within); quiet = λ p e. quiet_then (first.quiet p e) (second.quiet p e) }

  -- of a longer stretch
  pub passed_more : {n m r : ℕ} → m ≤ n → Passed t words at m r → Passed t words at n r
  passed_more h q = record { within = omega (arith, q.within); quiet = q.quiet }

-- in two parts
module _ (t : ℕ) (words more : List ℕ) (at : ℕ) {n r : ℕ} where
  pub passed_first : at < length words → (m : ℕ) → m ≡ min n (length words - at) → Passed t words at m r → Passed t (words ++ more) at n r
  passed_first l m e q = record {
    within = omega (arith, q.within);
    quiet = λ p f. record {
      none = λ j h. subst (λ (x : ℕ). falls x p ≡ false) (both_first words more (at + j) (omega (arith, q.within))) ((q.quiet p f).none j h);
    };
  }

  pub passed_second : length words ≤ at → Passed t more (at - length words) n r → Passed t (words ++ more) at n r
  passed_second l q = record {
    within = q.within;
    quiet = λ p f. record {
      none = λ j h.
          let place : at - length words + j ≡ at + j - length words = omega arith in
          let later : length words ≤ at + j = omega arith in
          subst (λ (x : ℕ). falls x p ≡ false) (ap (λ (x : ℕ). slice_index more x) place ∙ both_second words more (at + j) later) ((q.quiet p f).none j h);
    };
  }

-- ---- a block

-- of the words before i none brings a fault, if the top bit of none of their differences is set
pub record Seen (t : ℕ) (words : List ℕ) (at i seen : ℕ) : Type 0 where
  pub quiet : seen < 2 ^ 63 → (p : Float) → t ≡ threshold_of p → Quiet p words at i

pub seen_none : {t : ℕ} {words : List ℕ} {at : ℕ} → Seen t words at 0 0
seen_none = record { quiet = λ h p e. quiet_none }

or_above : (a b : ℕ) → (a ≤ bit_or a b) × (b ≤ bit_or a b)
or_above a b = omega (arith, or_add_and a b, and_le_l a b, and_le_r a b)

pub seen_next : {t : ℕ} {words : List ℕ} {at i seen : ℕ} (d : ℕ) → Seen t words at i seen
    → ((p : Float) → t ≡ threshold_of p → nat_le (2 ^ 63) d ≡ falls (slice_index words (at + i)) p) → Seen t words at (i + 1) (bit_or seen d)
seen_next {seen = seen} d q f = record {
  quiet = λ h p e.
      let low : d < 2 ^ 63 = omega (arith, or_above seen d) in
      quiet_more (q.quiet (omega (arith, or_above seen d)) p e) (sym (f p e) ∙ lt-leb (2 ^ 63) d low);
}

-- of a block's words from i on none before the first brings a fault
pub record Before (t : ℕ) (words : List ℕ) (at i first : ℕ) : Type 0 where
  pub from : i ≤ first
  pub within : first ≤ 8
  pub quiet : (p : Float) → t ≡ threshold_of p → Quiet p words (at + i) (first - i)

pub before_none : {t : ℕ} {words : List ℕ} {at : ℕ} → Before t words at 8 8
before_none = record { from = omega arith; within = omega arith; quiet = λ p e. quiet_none }

-- one word more, the one at i
pub before_next : {t : ℕ} {words : List ℕ} {at i k first r : ℕ} → k ≡ i + 1 → Before t words at k first → i ≤ r → r ≤ first
    → ((p : Float) → t ≡ threshold_of p → r ≡ cond (falls (slice_index words (at + i)) p) i first) → Before t words at i r
before_next {t} {words} {at} {i} {k} {first} {r} e q from within f = record {
  from = from;
  within = omega (arith, q.within);
  quiet = λ p g. go p g (falls (slice_index words (at + i)) p) refl (f p g);
}
  where
    go : (p : Float) → t ≡ threshold_of p → (b : Bool) → falls (slice_index words (at + i)) p ≡ b → r ≡ cond b i first → Quiet p words (at + i) (r - i)
    go p g true here h = let nothing : 0 ≡ r - i = omega arith in subst (Quiet p words (at + i)) nothing quiet_none
    go p g false here h =
        let count : 1 + (first - k) ≡ r - i = omega (arith, q.from) in
        let place : at + k ≡ at + i + 1 = omega arith in
        subst (Quiet p words (at + i)) count
        (quiet_then (quiet_one (at + i) here) (subst (λ (x : ℕ). Quiet p words x (first - k)) place (q.quiet p g)))

pub before_passed : {t : ℕ} {words : List ℕ} {at i first : ℕ} → i ≡ 0 → Before t words at i first → Passed t words at 8 first
before_passed {words = words} {at} {i} {first} e q = record {
  within = q.within;
  quiet = λ p f. let place : at + i ≡ at = omega arith in
      let count : first - i ≡ first = omega arith in
      subst (λ (x : ℕ). Quiet p words x first) place (subst (Quiet p words (at + i)) count (q.quiet p f));
}

-- ---- the words that are skipped

module _ (p : Float) (words : List ℕ) (at n : ℕ) (long : n ≤ length words - at) where
  skip_passed : (i : ℕ) → i ≤ n → ((j : ℕ) → j < i → falls (slice_index words (at + j)) p ≡ false)
      → skip_of p n (drop at words) ≡ i + skip_of p (n - i) (drop (at + i) words)
  skip_passed zero h f = rw (zero-add, sub-zero, add-zero)
  skip_passed (suc i) h f =
      let here = skip_more p words at i n (omega arith) (omega arith) (f i (omega arith)) in
      let next : skip_of p n (drop at words) ≡ i + 1 + skip_of p (n - (i + 1)) (drop (at + (i + 1)) words) =
      omega (arith, skip_passed i (omega arith) (λ j l. f j (omega arith)), here) in
      subst (λ (k : ℕ). skip_of p n (drop at words) ≡ k + skip_of p (n - k) (drop (at + k) words)) (add-one i) next

  skip_stopped : (r : ℕ) → r ≤ n → ((j : ℕ) → j < r → falls (slice_index words (at + j)) p ≡ false) → (r < n → falls (slice_index words (at + r)) p ≡ true)
      → r ≡ skip_of p n (drop at words)
  skip_stopped r h f g = go (nat_lt r n) refl
    where
      go : (b : Bool) → nat_lt r n ≡ b → r ≡ skip_of p n (drop at words)
      go true l =
          let less : r < n = ltb-true r n l in
          omega (arith, skip_passed r h f, skip_stops p words at r n less (omega arith) (g less))
      go false l = omega (arith, skip_passed r h f, skip_done p words at r n (ltb-false r n l))

-- of so many as are wanted, or as there are words
skip_least : (p : Float) (words : List ℕ) (at most n : ℕ) → n ≡ min most (length words - at)
    → skip_of p n (drop at words) ≡ skip_of p most (drop at words)
skip_least p words at most n e = go (nat_lt most (length words - at)) refl
  where
    go : (b : Bool) → nat_lt most (length words - at) ≡ b → skip_of p n (drop at words) ≡ skip_of p most (drop at words)
    go true l =
        let less : most < length words - at = ltb-true most (length words - at) l in
        let all : n ≡ most = omega (arith, less) in
        ap (λ (k : ℕ). skip_of p k (drop at words)) all
    go false l =
        let few : length words - at ≤ most = ltb-false most (length words - at) l in
        skip_end p most words at n (omega (arith, few)) (omega (arith, few))

pub stopped_skipped : {p : Float} {words : List ℕ} {at most n r : ℕ} → n ≡ min most (length words - at) → Stopped p words at n r
    → Skipped p words at most r
stopped_skipped {p} {words} {at} {most} {n} {r} e q = record {
  within = omega (arith, q.within);
  is = skip_stopped p words at n (omega arith) r q.within q.quiet.none q.falling ∙ skip_least p words at most n e;
}
