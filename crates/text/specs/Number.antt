-- Definitions. A number is written in decimal, below 2^64, without leading zeros; H is 16 lower-case hexadecimal digits; B is 0 or 1. Assumes
-- nothing.
use Rattle.std.specs.Prelude.{ℕ, zero, suc, ◌+◌, ◌-◌, ◌*◌, ◌/◌, ◌%◌, ◌^◌, Bool, true, cond, not, ◌&&◌, ◌||◌, List, [], ◌∷◌, ◌++◌, eqb, ltb, leb, length, get_or}
use Rattle.std.proofs.Math.Option.{Option, none, some}

-- ---- read

-- the value where a test passes
abbrev pub whenever : Bool → ℕ → Option ℕ
whenever b n = cond b (some n) none

abbrev pub is_decimal : ℕ → Bool
is_decimal b = leb 48 b && leb b 57

unfoldable pub all_decimal : List ℕ → Bool
all_decimal [] = true
all_decimal (b ∷ l) = is_decimal b && all_decimal l

-- the value of the digits `l` written after the digits of `v`
unfoldable pub decimal_from : ℕ → List ℕ → ℕ
decimal_from v [] = v
decimal_from v (b ∷ l) = decimal_from (v * 10 + (b - 48)) l

-- some bytes, and no 0 in front of others
abbrev pub proper : List ℕ → Bool
proper l = ltb 0 (length l) && (eqb (length l) 1 || not (eqb (get_or l 0 0) 48))

-- a number: these bytes, all of them
unfoldable pub number_of : List ℕ → Option ℕ
number_of l = whenever (proper l && all_decimal l && ltb (decimal_from 0 l) (2 ^ 64)) (decimal_from 0 l)

-- the value of a lower-case hexadecimal digit, and 16 for any other byte
abbrev pub hex_digit : ℕ → ℕ
hex_digit b =
    cond (ltb b 48) 16
    (cond (ltb b 58) (b - 48)
    (cond (ltb b 97) 16
    (cond (ltb b 103) (b - 87) 16)))

unfoldable pub all_hex_of : List ℕ → Bool
all_hex_of [] = true
all_hex_of (b ∷ l) = ltb (hex_digit b) 16 && all_hex_of l

-- the value of the digits `l` written after the digits of `v`
unfoldable pub hex_from : ℕ → List ℕ → ℕ
hex_from v [] = v
hex_from v (b ∷ l) = hex_from (v * 16 + hex_digit b) l

-- H
unfoldable pub hex_of : List ℕ → Option ℕ
hex_of l = whenever (eqb (length l) 16 && all_hex_of l) (hex_from 0 l)

-- B: a number that is 0 or 1
unfoldable pub bit_of : List ℕ → Option ℕ
bit_of l = whenever (eqb (length l) 1 && (eqb (get_or l 0 0) 48 || eqb (get_or l 0 0) 49)) (get_or l 0 0 - 48)

-- ---- written

-- the digits of n, of which there are at most as many as the first number says
unfoldable pub decimal_digits : ℕ → ℕ → List ℕ
decimal_digits zero n = []
decimal_digits (suc f) n = let more = decimal_digits f (n / 10) ++ (48 + n % 10) ∷ [] in cond (ltb n 10) ((48 + n) ∷ []) more

-- a number below 10^20, and so one below 2^64, in decimal
abbrev pub decimal : ℕ → List ℕ
decimal n = decimal_digits 20 n

-- the byte of a hexadecimal digit
abbrev pub hex_byte_of : ℕ → ℕ
hex_byte_of d = cond (ltb d 10) (48 + d) (87 + d)

-- the last so many hexadecimal digits of n
unfoldable pub hex_digits : ℕ → ℕ → List ℕ
hex_digits zero n = []
hex_digits (suc f) n = hex_digits f (n / 16) ++ hex_byte_of (n % 16) ∷ []

-- a number below 2^64 as an H
abbrev pub hexadecimal : ℕ → List ℕ
hexadecimal n = hex_digits 16 n
