-- Digits read one after the other. Laws. Assumes nothing.
use Rattle.std.specs.Prelude.{ℕ, ◌+◌, ◌-◌, ◌*◌, ◌^◌, ◌≤◌, ◌<◌, Bool, true, false, ◌≡◌, refl, List, [], ◌∷◌, ltb, leb, length, get_or, drop}
use Rattle.std.proofs.Common.{add-one, arith, le_trans, pow-suc, sym, ◌∙◌, lit≤, drop_of_length-le}
use Rattle.std.proofs.Math.Nat.{pow-le-pow_right}
use Rattle.std.proofs.Math.Bool.{and-false}
use Rattle.std.proofs.Math.Path.{ap}
use Rattle.std.proofs.Math.Option.{none, some}
use borrow.Author.Tests.{leb-true, leb-false, le-leb, lt-leb, lt-ltb, le-ltb, eq-eqb, ne_eqb}
use Rattle.text.specs.Number.{all_decimal, decimal_from, proper, number_of, hex_digit, all_hex_of, hex_from, hex_of}
use Rattle.text.proofs.Laws.Pieces.{step}

-- ---- decimal

module _ (s : List ℕ) (i : ℕ) (h : i < length s) where
  pub step_digit : 48 ≤ get_or s i 0 → get_or s i 0 ≤ 57 → all_decimal (drop i s) ≡ all_decimal (drop (i + 1) s)
  unfolding all_decimal
  step_digit p q = ap all_decimal (step s i h) ∙ simp (le-leb, p, q)

  pub step_low : get_or s i 0 < 48 → all_decimal (drop i s) ≡ false
  unfolding all_decimal
  step_low p = ap all_decimal (step s i h) ∙ simp (lt-leb 48 (get_or s i 0) p)

  pub step_high : 57 < get_or s i 0 → all_decimal (drop i s) ≡ false
  unfolding all_decimal
  step_high p = ap all_decimal (step s i h) ∙ simp (lt-leb (get_or s i 0) 57 p, and-false)

  pub step_value : (v : ℕ) → decimal_from v (drop i s) ≡ decimal_from (v * 10 + (get_or s i 0 - 48)) (drop (i + 1) s)
  unfolding decimal_from
  step_value v = ap (decimal_from v) (step s i h)

module _ (s : List ℕ) (i : ℕ) (h : length s ≤ i) where
  pub end_digit : all_decimal (drop i s) ≡ true
  unfolding all_decimal
  end_digit = ap all_decimal (drop_of_length-le s h)

  pub end_value : (v : ℕ) → decimal_from v (drop i s) ≡ v
  unfolding decimal_from
  end_value v = ap (decimal_from v) (drop_of_length-le s h)

-- further digits make a number no smaller
pub decimal_grows : (v : ℕ) (l : List ℕ) → v ≤ decimal_from v l
unfolding decimal_from
decimal_grows v [] = omega arith
decimal_grows v (b ∷ l) = le_trans (omega arith) (decimal_grows (v * 10 + (b - 48)) l)

-- 2^64 - 1 is 18446744073709551615
pub last_digit : (v d : ℕ) → v ≡ 1844674407370955161 → leb d 5 ≡ ltb (v * 10 + d) (2 ^ 64)
last_digit v d e = go (leb d 5) refl
  where
    go : (t : Bool) → leb d 5 ≡ t → t ≡ ltb (v * 10 + d) (2 ^ 64)
    go true h = let k = leb-true d 5 h in sym (lt-ltb (v * 10 + d) (2 ^ 64) (omega arith))
    go false h = let k = leb-false d 5 h in sym (le-ltb (v * 10 + d) (2 ^ 64) (omega arith))

module _ (l : List ℕ) where
  pub number_improper : proper l ≡ false → number_of l ≡ none
  unfolding number_of
  number_improper e = simp e

  pub number_undigit : all_decimal l ≡ false → number_of l ≡ none
  unfolding number_of
  number_undigit e = simp (e, and-false)

  pub number_large : 2 ^ 64 ≤ decimal_from 0 l → number_of l ≡ none
  unfolding number_of
  number_large h = simp (le-ltb _ _ h, and-false)

  pub number_good : proper l ≡ true → all_decimal l ≡ true → decimal_from 0 l < 2 ^ 64 → number_of l ≡ some (decimal_from 0 l)
  unfolding number_of
  number_good p d h = simp (p, d, lt-ltb _ _ h)

-- a 0 in front of other bytes
pub leading_zero : (b : ℕ) (l : List ℕ) → number_of (48 ∷ b ∷ l) ≡ none
leading_zero b l = number_improper (48 ∷ b ∷ l) (simp (ne_eqb (length (48 ∷ b ∷ l)) 1 (λ (e : length (48 ∷ b ∷ l) ≡ 1). omega arith), and-false))

-- ---- hexadecimal

module _ (s : List ℕ) (i : ℕ) (h : i < length s) where
  pub hex_step : hex_digit (get_or s i 0) < 16 → all_hex_of (drop i s) ≡ all_hex_of (drop (i + 1) s)
  unfolding all_hex_of
  hex_step p = ap all_hex_of (step s i h) ∙ simp (lt-ltb _ _ p)

  pub hex_other : 16 ≤ hex_digit (get_or s i 0) → all_hex_of (drop i s) ≡ false
  unfolding all_hex_of
  hex_other p = ap all_hex_of (step s i h) ∙ simp (le-ltb _ _ p)

  pub hex_value : (v : ℕ) → hex_from v (drop i s) ≡ hex_from (v * 16 + hex_digit (get_or s i 0)) (drop (i + 1) s)
  unfolding hex_from
  hex_value v = ap (hex_from v) (step s i h)

module _ (s : List ℕ) (i : ℕ) (h : length s ≤ i) where
  pub hex_end : all_hex_of (drop i s) ≡ true
  unfolding all_hex_of
  hex_end = ap all_hex_of (drop_of_length-le s h)

  pub hex_end_value : (v : ℕ) → hex_from v (drop i s) ≡ v
  unfolding hex_from
  hex_end_value v = ap (hex_from v) (drop_of_length-le s h)

module _ (l : List ℕ) where
  pub hex_length : (length l ≡ 16 → ⊥) → hex_of l ≡ none
  unfolding hex_of
  hex_length e = simp (ne_eqb _ _ e)

  pub hex_undigit : all_hex_of l ≡ false → hex_of l ≡ none
  unfolding hex_of
  hex_undigit e = simp (e, and-false)

  pub hex_good : length l ≡ 16 → all_hex_of l ≡ true → hex_of l ≡ some (hex_from 0 l)
  unfolding hex_of
  hex_good e d = simp (eq-eqb _ _ e, d)

-- one more hexadecimal digit stays below the next power
pub hex_grows : (v d i : ℕ) → v < 16 ^ i → d < 16 → v * 16 + d < 16 ^ (i + 1)
hex_grows v d i h g = rw (add-one, pow-suc) (omega arith)

pub hex_fits : (i v : ℕ) → i < 16 → v < 16 ^ (i + 1) → v < 2 ^ 64
hex_fits i v h g = let k : i + 1 ≤ 16 = omega arith in le_trans g (pow-le-pow_right {n = 16} (lit≤ tt) k)
