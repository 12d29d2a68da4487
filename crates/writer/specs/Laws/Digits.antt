-- Digits written from the last to the first, and lists member by member. Laws. Assumes nothing.
use Rattle.std.specs.Prelude.{◌≡◌, List, [], ◌∷◌, ◌++◌, ℕ, zero, suc, ◌+◌, ◌-◌, ◌/◌, ◌%◌, ◌^◌, ◌≤◌, ◌<◌, length, set, take, drop}
use Rattle.std.proofs.Math.Path.{refl}
use Rattle.std.proofs.Common.{sym, ap, ◌∙◌, append_assoc, append-nil, pow-suc, add-one, arith, le-ltb, lt-ltb, length-set, length-drop, drop_of_length-le, drop-cons, drop-set-lt, get_or-set_same, take_all}
use Rattle.text.specs.Number.{decimal_digits, decimal, hex_byte_of, hex_digits, hexadecimal}

-- a digit is stored in front of those that are there
pub stored : (l : List ℕ) (i b : ℕ) → i < length l → drop i (set l i b) ≡ b ∷ drop (i + 1) l
stored l i b h =
    let inside : i < length (set l i b) = rw length-set h in
    let before : i < suc i = omega arith in
    rw (drop-cons (set l i b) i 0, get_or-set_same, add-one, drop-set-lt)

-- ---- decimal

-- digits are written from the last on, until one is left
pub last_digit : (i n : ℕ) → 9 < n → decimal_digits (suc i) n ≡ decimal_digits i (n / 10) ++ (48 + n % 10) ∷ []
last_digit i n h = unfold decimal_digits in rw (le-ltb n 10 (omega arith))

pub one_digit : (i n : ℕ) → n ≤ 9 → decimal_digits (suc i) n ≡ (48 + n) ∷ []
one_digit i n h = unfold decimal_digits in rw (lt-ltb n 10 (omega arith))

-- the digits of n are those of what is left and those that are stored
pub record Digits (n i rest : ℕ) (digits : List ℕ) : Type 0 where
  pub same : decimal n ≡ decimal_digits i rest ++ drop i digits
  pub some : 1 ≤ i
  pub left : rest < 10 ^ i
  pub size : length digits ≡ 20

pub no_digits : (n : ℕ) (digits : List ℕ) → n < 2 ^ 64 → length digits ≡ 20 → Digits n 20 n digits
no_digits n digits h e =
    let past : length digits ≤ 20 = omega arith in
    record {
      same = sym (ap (λ (l : List ℕ). decimal n ++ l) (drop_of_length-le digits past) ∙ append-nil (decimal n));
      some = omega arith;
      left = omega arith;
      size = e;
    }

-- where two digits or more are left, there is room for two
pub more_left : {n i rest : ℕ} {digits : List ℕ} → Digits n i rest digits → 9 < rest → 2 ≤ i
more_left {n} {i} {rest} d h = go i d.left
  where
    go : (i : ℕ) → rest < 10 ^ i → 2 ≤ i
    go zero l = absurd (omega arith)
    go (suc zero) l = absurd (omega arith)
    go (suc (suc i)) l = omega arith

pub digit_stored : {n i rest : ℕ} {digits : List ℕ} → Digits n i rest digits → 9 < rest → i ≤ 20 → Digits n (i - 1) (rest / 10) (set digits (i - 1) (48 + rest % 10))
digit_stored {n} {i} {rest} {digits} d h k = go (i - 1) (omega (arith, more_left d h)) (omega (arith, more_left d h)) (omega arith)
  where
    go : (j : ℕ) → i ≡ suc j → 1 ≤ j → j < 20 → Digits n j (rest / 10) (set digits j (48 + rest % 10))
    go j e m f =
        let size : j < length digits = omega (arith, d.size) in
        let bound : rest < 10 ^ suc j = rw e at d.left in
        record {
          same =
              d.same
              ∙ rw (e, last_digit j rest h, append_assoc, stored digits j (48 + rest % 10) size, add-one);
          some = m;
          left = omega (arith, rw pow-suc at bound);
          size = length-set digits j (48 + rest % 10) ∙ d.size;
        }

-- all digits are stored
pub all_stored : {n i rest : ℕ} {digits : List ℕ} → Digits n i rest digits → rest ≤ 9 → i ≤ 20 → take (20 - (i - 1)) (drop (i - 1) (set digits (i - 1) (48 + rest))) ≡ decimal n
all_stored {n} {i} {rest} {digits} d h k = go (i - 1) (omega (arith, d.some)) (omega (arith, d.some))
  where
    go : (j : ℕ) → i ≡ suc j → j < 20 → take (20 - j) (drop j (set digits j (48 + rest))) ≡ decimal n
    go j e f =
        let size : j < length digits = omega (arith, d.size) in
        let whole : length (drop j (set digits j (48 + rest))) ≤ 20 - j = rw (length-drop, length-set) (omega (arith, d.size)) in
        take_all (20 - j) (drop j (set digits j (48 + rest))) whole ∙ sym (d.same ∙ rw (e, one_digit j rest h, stored digits j (48 + rest) size, add-one))

-- ---- hexadecimal

pub record Hexes (n i rest : ℕ) (digits : List ℕ) : Type 0 where
  pub same : hexadecimal n ≡ hex_digits i rest ++ drop i digits
  pub size : length digits ≡ 16

pub no_hexes : (n : ℕ) (digits : List ℕ) → length digits ≡ 16 → Hexes n 16 n digits
no_hexes n digits e =
    let past : length digits ≤ 16 = omega arith in
    record { same = sym (ap (λ (l : List ℕ). hexadecimal n ++ l) (drop_of_length-le digits past) ∙ append-nil (hexadecimal n)); size = e }

pub hex_stored : {n i rest : ℕ} {digits : List ℕ} → Hexes n i rest digits → 0 < i → i ≤ 16 → Hexes n (i - 1) (rest / 16) (set digits (i - 1) (hex_byte_of (rest % 16)))
hex_stored {n} {i} {rest} {digits} d h k = go (i - 1) (omega arith) (omega arith)
  where
    digit : (j : ℕ) → hex_digits (suc j) rest ≡ hex_digits j (rest / 16) ++ hex_byte_of (rest % 16) ∷ []
    digit j = unfold hex_digits in refl

    go : (j : ℕ) → i ≡ suc j → j < 16 → Hexes n j (rest / 16) (set digits j (hex_byte_of (rest % 16)))
    go j e f =
        let size : j < length digits = omega (arith, d.size) in
        record {
          same = d.same ∙ rw (e, digit, append_assoc, stored digits j (hex_byte_of (rest % 16)) size, add-one);
          size = length-set digits j (hex_byte_of (rest % 16)) ∙ d.size;
        }

pub all_hexes : {n i rest : ℕ} {digits : List ℕ} → Hexes n i rest digits → i ≤ 0 → digits ≡ hexadecimal n
all_hexes {n} {i} {rest} {digits} d h = let none : i ≡ 0 = omega arith in sym (d.same ∙ rw none (unfold hex_digits in refl))
