-- Definitions. Callers with shares of the main list (document 02, note 14): each caller has a stretch at its front, in caller order, and the rest is
-- common. Assumes nothing.
use Rattle.std.specs.Prelude.{Bool, true, ◌&&◌, List, [], ◌∷◌, ◌++◌, ℕ, ◌+◌, ◌-◌, min, leb, ltb, length, get_or, take, drop, set}

-- the words of each caller's stretch, how many words were taken of each stretch and then of the common part, and the caller's number
pub record Share : Type 0 where
  pub shares : List ℕ
  pub marks : List ℕ
  pub caller : ℕ

unfoldable pub sum : List ℕ → ℕ
sum [] = 0
sum (n ∷ ns) = n + sum ns

-- ---- the parts of the list

-- the place where a caller's stretch begins: behind those of the callers before
abbrev pub stretch_from : List ℕ → ℕ → ℕ
stretch_from shares caller = sum (take caller shares)

-- what is left of a caller's stretch: from its mark to its end
unfoldable pub own_left : List ℕ → List ℕ → ℕ → List ℕ → List ℕ
own_left shares marks caller main =
    drop (get_or marks caller 0) (take (get_or shares caller 0) (drop (stretch_from shares caller) main))

-- what is left of the common part, which lies behind all stretches and is marked behind them
unfoldable pub common_left : List ℕ → List ℕ → List ℕ → List ℕ
common_left shares marks main = drop (get_or marks (length shares) 0) (drop (sum shares) main)

-- a caller's job uses the own stretch first, then common words
unfoldable pub available : Share → List ℕ → List ℕ
available s main = own_left s.shares s.marks s.caller main ++ common_left s.shares s.marks main

-- ---- 13, 25 and 26

-- 13: a mark for each caller, and one for the common part
abbrev pub marks_fit : Share → Bool
marks_fit s = ltb (length s.shares) (length s.marks)

abbrev pub max_callers : ℕ
max_callers = 8

-- no more is marked taken than a stretch holds
unfoldable pub each_within_of : List ℕ → List ℕ → Bool
each_within_of [] marks = true
each_within_of (n ∷ shares) [] = true
each_within_of (n ∷ shares) (k ∷ marks) = leb k n && each_within_of shares marks

-- 25: the shares total more than the list, there are no callers or more than eight, or more is marked taken than a stretch or the common part holds
unfoldable pub shares_fit_of : Share → List ℕ → Bool
shares_fit_of s main =
    leb 1 (length s.shares)
    && leb (length s.shares) max_callers
    && leb (sum s.shares) (length main)
    && each_within_of s.shares s.marks
    && leb (get_or s.marks (length s.shares) 0) (length main - sum s.shares)

-- 26: the caller's number isn't below their count
abbrev pub caller_fits : Share → Bool
caller_fits s = ltb s.caller (length s.shares)

-- ---- the marks after a job

-- so many words more are taken of a part
unfoldable pub moved : List ℕ → ℕ → ℕ → List ℕ
moved marks part taken = set marks part (get_or marks part 0 + taken)

-- so many words taken of those available: of the own stretch first, and the rest of the common part
unfoldable pub marks_after : Share → List ℕ → ℕ → List ℕ
marks_after s main taken =
    let own = min taken (length (own_left s.shares s.marks s.caller main)) in
    moved (moved s.marks s.caller own) (length s.shares) (taken - own)
