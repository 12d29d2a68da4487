-- Hexadecimal digits by arithmetic, and a text tested for them byte by byte. Laws. Assumes nothing.
use Rattle.std.specs.Prelude.{◌≡◌, refl, Bool, true, false, cond, not, List, ℕ, ◌+◌, ◌-◌, ◌*◌, ◌/◌, ◌%◌, ◌≤◌, ◌<◌, eqb, ltb, length, get_or, drop}
use Rattle.std.proofs.Common.{sym, ◌∙◌, true≢false, arith, ltb-true, ltb-false, lt-ltb, le-ltb, eqb-true, eq-eqb, ne_eqb}
use Rattle.std.proofs.Math.Decide.{ℕ_discrete}
use Rattle.std.proofs.lemmas.Bool.{eqb-false}
use mir.Val.{bool_byte}
use Rattle.std.specs.Int.Bits.{bit_or, or_zero_r, or_add_and}
use Rattle.std.proofs.lemmas.Nat.{and_le_l}
use Rattle.text.specs.Number.{hex_digit, all_hex_of}
use Rattle.text.proofs.Laws.Numbers.{hex_step, hex_other, hex_end}
use Rattle.numbers.specs.Hex.{hex_value_of}

-- the byte of a digit, by arithmetic
abbrev pub byte_of : ℕ → ℕ
byte_of d = 48 + d + 39 * ((d + 6) / 16)

-- the bytes of digits
byte_low : (d : ℕ) → d < 10 → byte_of d ≡ 48 + d
byte_low d h = let none : (d + 6) / 16 ≡ 0 = omega arith in rw none (omega arith)

byte_high : (d : ℕ) → 10 ≤ d → d < 16 → byte_of d ≡ 87 + d
byte_high d h g = let one : (d + 6) / 16 ≡ 1 = omega arith in rw one (omega arith)

-- the digits of bytes
value_low : (b : ℕ) → 48 ≤ b → b < 58 → hex_value_of b ≡ b - 48
value_low b h g =
    let none : b / 64 ≡ 0 = omega arith in
    let rest : b % 16 ≡ b - 48 = omega arith in
    rw (none, rest) (omega arith)

value_high : (b : ℕ) → 97 ≤ b → b < 103 → hex_value_of b ≡ b - 87
value_high b h g =
    let one : b / 64 ≡ 1 = omega arith in
    let rest : b % 16 ≡ b - 96 = omega arith in
    rw (one, rest) (omega arith)

-- a byte that is a digit has that value, and is the byte of it
pub hex_digit_lem : (b : ℕ) → hex_digit b < 16 → (hex_value_of b ≡ hex_digit b) × (byte_of (hex_value_of b) ≡ b)
hex_digit_lem b = go (ltb b 48) (ltb b 58) (ltb b 97) (ltb b 103) refl refl refl refl
  where
    go : (p q r s : Bool) → ltb b 48 ≡ p → ltb b 58 ≡ q → ltb b 97 ≡ r → ltb b 103 ≡ s
        → cond p 16 (cond q (b - 48) (cond r 16 (cond s (b - 87) 16))) < 16
        → (hex_value_of b ≡ cond p 16 (cond q (b - 48) (cond r 16 (cond s (b - 87) 16)))) × (byte_of (hex_value_of b) ≡ b)
    go true q r s e f g k h = absurd (omega arith)
    go false true r s e f g k h =
        let low = ltb-false b 48 e in
        let high = ltb-true b 58 f in
        let value = value_low b low high in
        (value, rw value (byte_low (b - 48) (omega arith) ∙ omega arith))
    go false false true s e f g k h = absurd (omega arith)
    go false false false true e f g k h =
        let low = ltb-false b 97 g in
        let high = ltb-true b 103 k in
        let value = value_high b low high in
        (value, rw value (byte_high (b - 87) (omega arith) (omega arith) ∙ omega arith))
    go false false false false e f g k h = absurd (omega arith)

-- the byte of a digit is one
byte_digit : (d b : ℕ) → d < 16 → byte_of d ≡ b → hex_digit b < 16
byte_digit d b h e = go (ltb d 10) refl
  where
    go : (t : Bool) → ltb d 10 ≡ t → hex_digit b < 16
    go true k =
        let is : b ≡ 48 + d = sym e ∙ byte_low d (ltb-true d 10 k) in
        let small = ltb-true d 10 k in
        simp (le-ltb b 48 (omega arith), lt-ltb b 58 (omega arith)) (omega arith)
    go false k =
        let large = ltb-false d 10 k in
        let is : b ≡ 87 + d = sym e ∙ byte_high d large h in
        simp (le-ltb b 48 (omega arith), le-ltb b 58 (omega arith), le-ltb b 97 (omega arith), lt-ltb b 103 (omega arith)) (omega arith)

-- Whether a byte is the byte of its value, as a number.
pub hex_told : (b : ℕ) → bool_byte (not (eqb (byte_of (hex_value_of b)) b)) ≡ cond (ltb (hex_digit b) 16) 0 1
hex_told b = go (ltb (hex_digit b) 16) refl
  where
    go : (t : Bool) → ltb (hex_digit b) 16 ≡ t → bool_byte (not (eqb (byte_of (hex_value_of b)) b)) ≡ cond t 0 1
    go true k = simp (eq-eqb _ _ (hex_digit_lem b (ltb-true _ _ k)).1)
    go false k =
        let none : 16 ≤ hex_digit b = ltb-false (hex_digit b) 16 k in
        simp (ne_eqb (byte_of (hex_value_of b)) b (λ (e : byte_of (hex_value_of b) ≡ b). omega (arith, byte_digit (hex_value_of b) b (omega arith) e)))

-- The first i bytes were tested: where no other byte was met, the rest decides; else the text is none.
pub record Tested (s : List ℕ) (i wrong : ℕ) : Type 0 where
  pub none : wrong ≡ 0 → all_hex_of s ≡ all_hex_of (drop i s)
  pub some : (wrong ≡ 0 → ⊥) → all_hex_of s ≡ false

pub tested_more : {s : List ℕ} {i wrong : ℕ} (x : ℕ) → Tested s i wrong → i < length s → x ≡ cond (ltb (hex_digit (get_or s i 0)) 16) 0 1
    → Tested s (i + 1) (bit_or wrong x)
tested_more {s} {i} {wrong} x t h e = go (ltb (hex_digit (get_or s i 0)) 16) refl e
  where
    go : (b : Bool) → ltb (hex_digit (get_or s i 0)) 16 ≡ b → x ≡ cond b 0 1 → Tested s (i + 1) (bit_or wrong x)
    go true k same =
        rw (same, or_zero_r wrong)
        (record { none = λ z. t.none z ∙ hex_step s i h (ltb-true _ _ k); some = t.some })
    go false k same =
        let or = or_add_and wrong 1 in
        let and = and_le_l wrong 1 in
        rw same
        (record { none = λ z. absurd (omega arith); some = λ _. other (ℕ_discrete wrong 0) })
      where
        other : Dec (wrong ≡ 0) → all_hex_of s ≡ false
        other (yes z) = t.none z ∙ hex_other s i h (ltb-false _ _ k)
        other (no n) = t.some n

-- all were tested
pub tested_all : {s : List ℕ} {i wrong : ℕ} → Tested s i wrong → length s ≤ i → eqb wrong 0 ≡ all_hex_of s
tested_all {s} {i} {wrong} t h = go (eqb wrong 0) refl
  where
    go : (b : Bool) → eqb wrong 0 ≡ b → b ≡ all_hex_of s
    go true e = sym (t.none (eqb-true _ _ e) ∙ hex_end s i h)
    go false e = sym (t.some (eqb-false _ _ e))

-- the next of some digits
pub hex_next : (s : List ℕ) (i : ℕ) → i < length s → all_hex_of (drop i s) ≡ true → (hex_digit (get_or s i 0) < 16) × (all_hex_of (drop (i + 1) s) ≡ true)
hex_next s i h e = go (ltb (hex_digit (get_or s i 0)) 16) refl
  where
    go : (b : Bool) → ltb (hex_digit (get_or s i 0)) 16 ≡ b → (hex_digit (get_or s i 0) < 16) × (all_hex_of (drop (i + 1) s) ≡ true)
    go true k = let digit = ltb-true _ _ k in (digit, sym (hex_step s i h digit) ∙ e)
    go false k = absurd (true≢false (sym e ∙ hex_other s i h (ltb-false _ _ k)))
