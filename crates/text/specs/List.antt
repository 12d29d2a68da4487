-- Definitions. Lists with commas. L is of numbers, strictly rising, `-` when empty. Q is of numbers in any order and never empty, and so is the s of a
-- permutation. T is of H, never empty. Every list is read to its end, however long it is. Assumes nothing.
use Rattle.std.specs.Prelude.{ℕ, Bool, true, false, cond, ◌&&◌, List, [], ◌∷◌, ◌++◌, eqb, ltb, length, get_or}
use Rattle.std.proofs.Math.Option.{Option, none, some}
use Rattle.text.specs.Bytes.{comma, split}
use Rattle.text.specs.Number.{number_of, hex_of, decimal}

-- ---- read

unfoldable pub with_first : Option ℕ → Option (List ℕ) → Option (List ℕ)
with_first none o = none
with_first (some n) none = none
with_first (some n) (some l) = some (n ∷ l)

-- what some pieces are by a reader of one, and nothing where one of them is none
unfoldable pub pieces_of : (List ℕ → Option ℕ) → List (List ℕ) → Option (List ℕ)
pieces_of one [] = some []
pieces_of one (p ∷ ps) = with_first (one p) (pieces_of one ps)

-- a piece: a word by its 16 hexadecimal digits, or a number
abbrev pub piece_of : Bool → List ℕ → Option ℕ
piece_of true = hex_of
piece_of false = number_of

-- Q
unfoldable pub list_Q : List ℕ → Option (List ℕ)
list_Q v = pieces_of number_of (split comma v)

-- T
unfoldable pub list_T : List ℕ → Option (List ℕ)
list_T v = pieces_of hex_of (split comma v)

unfoldable pub rises_from : ℕ → List ℕ → Bool
rises_from a [] = true
rises_from a (b ∷ l) = ltb a b && rises_from b l

-- strictly rising
unfoldable pub is_rising_of : List ℕ → Bool
is_rising_of [] = true
is_rising_of (a ∷ l) = rises_from a l

unfoldable pub only_rising : Option (List ℕ) → Option (List ℕ)
only_rising none = none
only_rising (some l) = cond (is_rising_of l) (some l) none

-- the one byte `-`
abbrev pub is_dash_of : List ℕ → Bool
is_dash_of v = eqb (length v) 1 && eqb (get_or v 0 0) 45

-- L
unfoldable pub list_L : List ℕ → Option (List ℕ)
list_L v = cond (is_dash_of v) (some []) (only_rising (list_Q v))

unfoldable pub one_member : Option ℕ → Option (List ℕ)
one_member none = none
one_member (some n) = some (n ∷ [])

-- a number, or `-` for none: a list of at most one member
unfoldable pub list_C : List ℕ → Option (List ℕ)
list_C v = cond (is_dash_of v) (some []) (one_member (number_of v))

-- ---- written

-- each member after a comma, by the text of one
unfoldable pub commas_by : (ℕ → List ℕ) → List ℕ → List ℕ
commas_by one [] = []
commas_by one (n ∷ l) = comma ∷ (one n ++ commas_by one l)

-- a list by the text of one member, `-` when empty
unfoldable pub list_text_by : (ℕ → List ℕ) → List ℕ → List ℕ
list_text_by one [] = 45 ∷ []
list_text_by one (n ∷ l) = one n ++ commas_by one l

-- those of numbers in decimal
abbrev pub commas : List ℕ → List ℕ
commas = commas_by decimal

abbrev pub list_text : List ℕ → List ℕ
list_text = list_text_by decimal
