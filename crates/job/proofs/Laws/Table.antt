-- The table of a Clifford and its words, for any number of words. Laws. Assumes nothing.
use Rattle.std.specs.Prelude.{ℕ, zero, suc, ◌+◌, ◌*◌, ◌/◌, ◌%◌, ◌^◌, ◌≤◌, ◌<◌, ◌≡◌, true, cond, not, ◌&&◌, List, [], ◌∷◌, leb, length, get_or, drop}
use Rattle.std.proofs.Math.Nat.{zero-div}
use Rattle.std.proofs.Common.{mul-le-mul, lt_of_lt_of_le, sym, ap, ◌∙◌, ltb-true, eq-eqb, pow-add, pow_mono, shr-shr, shr_lt, get_or-drop}
use native.Mathlib.Omega.{arith}
use Rattle.std.proofs.Math.Path.{refl}
use Rattle.std.proofs.Math.Bool.{and-false}
use Rattle.std.proofs.Math.Option.{none, some}
use Rattle.pauli.specs.Bits.{bit}
use Rattle.pauli.proofs.Laws.Word.{bit_shr, bit_mod}
use Rattle.text.specs.Written.{AllSmall, FitQ}
use Rattle.text.proofs.Laws.Values.{both}
use Rattle.job.specs.Line.{Line}
use Rattle.job.specs.Clifford.{table_words_of, table_of, words_of, is_clifford_of}
use Rattle.job.specs.Grammar.{plain, clifford_line}

-- ---- from words to the table

-- the first word is the lowest
module _ (w : ℕ) (ws : List ℕ) (h : w < 2 ^ 64) where
  low_word : table_of (w ∷ ws) % 2 ^ 64 ≡ w
  unfolding table_of
  low_word = omega arith

  high_words : table_of (w ∷ ws) / 2 ^ 64 ≡ table_of ws
  unfolding table_of
  high_words = omega arith

-- the words from one on
pub table_drop : (ws : List ℕ) → AllSmall ws → (m : ℕ) → table_of ws / 2 ^ (64 * m) ≡ table_of (drop m ws)
table_drop ws h zero = omega arith
table_drop [] h (suc m) = unfold table_of in zero-div _
table_drop (w ∷ ws) h (suc m) =
    let e : 64 * suc m ≡ 64 + 64 * m = omega arith in
    rw (e, ← shr-shr, high_words w ws (h 0)) (table_drop ws (λ i. h (suc i)) m)

first_bits : (ws : List ℕ) → get_or ws 0 0 < 2 ^ 64 → (j : ℕ) → j < 64 → bit (table_of ws) j ≡ bit (get_or ws 0 0) j
first_bits [] h j k = unfold table_of in refl
first_bits (w ∷ ws) h j k = sym (bit_mod (table_of (w ∷ ws)) 64 j k) ∙ ap (λ (x : ℕ). bit x j) (low_word w ws h)

-- a bit of the table is a bit of its word
pub table_bit : (ws : List ℕ) → AllSmall ws → (i : ℕ) → bit (table_of ws) i ≡ bit (get_or ws (i / 64) 0) (i % 64)
table_bit ws h i =
    let e : i ≡ 64 * (i / 64) + i % 64 = omega arith in
    let first : get_or (drop (i / 64) ws) 0 0 ≡ get_or ws (i / 64) 0 = get_or-drop (i / 64) ws 0 0 ∙ ap (λ (m : ℕ). get_or ws m 0) (omega arith) in
    ap (bit (table_of ws)) e
    ∙ sym (bit_shr (table_of ws) (64 * (i / 64)) (i % 64))
    ∙ ap (λ (t : ℕ). bit t (i % 64)) (table_drop ws h (i / 64))
    ∙ first_bits (drop (i / 64) ws) (rw first (h (i / 64))) (i % 64) (omega arith)
    ∙ ap (λ (w : ℕ). bit w (i % 64)) first

-- it is below the power of so many words
pub table_small : (ws : List ℕ) → AllSmall ws → table_of ws < 2 ^ (64 * length ws)
unfolding table_of
table_small [] h = omega arith
table_small (w ∷ ws) h =
    let e : 64 * suc (length ws) ≡ 64 + 64 * length ws = omega arith in
    rw (e, pow-add 2 64 (64 * length ws)) (omega (arith, h 0, table_small ws (λ i. h (suc i))))

-- ---- from the table to its words

pub words_length : (n t : ℕ) → length (words_of n t) ≡ n
unfolding words_of
words_length zero t = refl
words_length (suc n) t = ap suc (words_length n (t / 2 ^ 64))

words_small : (n t : ℕ) → AllSmall (words_of n t)
unfolding words_of
words_small zero t i = omega arith
words_small (suc n) t zero = omega arith
words_small (suc n) t (suc i) = words_small n (t / 2 ^ 64) i

words_round : (n t : ℕ) → t < 2 ^ (64 * n) → table_of (words_of n t) ≡ t
unfolding words_of table_of
words_round zero t h = omega arith
words_round (suc n) t h =
    let e : 64 * suc n ≡ 64 * n + 64 = omega arith in
    omega (arith, words_round n (t / 2 ^ 64) (shr_lt (64 * n) 64 (rw e at h)))

-- ---- as many words as 4k² bits need

-- they have room for the table
enough_words : (k : ℕ) → 4 * (k * k) ≤ 64 * table_words_of k
enough_words k = omega arith

pub few_words : (k : ℕ) → k ≤ 8 → table_words_of k ≤ 4
few_words k h = omega (arith, mul-le-mul h h)

some_words : (k : ℕ) → 0 < k → 0 < table_words_of k
some_words k h = omega (arith, mul-le-mul h h)

pub table_round : (k t : ℕ) → t < 2 ^ (4 * (k * k)) → table_of (words_of (table_words_of k) t) ≡ t
table_round k t h = words_round (table_words_of k) t (lt_of_lt_of_le h (pow_mono (enough_words k)))

-- they suit a T
pub words_fit : (k t : ℕ) → 0 < k → FitQ (words_of (table_words_of k) t)
words_fit k t h = record { filled = rw (words_length (table_words_of k) t) (some_words k h); small = words_small (table_words_of k) t }

-- ---- lines

-- a line with as many words
pub right_words : (qs ws : List ℕ) → length ws ≡ table_words_of (length qs) → clifford_line qs ws ≡ plain (Line.clifford qs (table_of ws))
unfolding clifford_line
right_words qs ws e = simp (eq-eqb _ _ e, and-false)

-- ---- test 7

pub clifford_small : (k t : ℕ) → is_clifford_of k t ≡ true → t < 2 ^ (4 * (k * k))
unfolding is_clifford_of
clifford_small k t e = ltb-true _ _ (both _ _ e).0
