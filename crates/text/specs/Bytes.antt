-- Definitions. Texts as lists of bytes, and bytes cut at a separator. Assumes nothing.
use Rattle.std.specs.Prelude.{ℕ, zero, suc, cond, List, [], ◌∷◌, ◌++◌, eqb}
use Prim.Native.Char.{code}
use Prim.Native.String.{String, [] as empty, ◌∷◌ as ◌then◌}

-- the bytes of a text of ASCII characters
unfoldable pub bytes : String → List ℕ
bytes empty = []
bytes (c then s) = code c ∷ bytes s

-- the separators: each line ends in LF, one space stands between fields, commas between the members of a list
abbrev pub LF : ℕ
LF = 10

abbrev pub space : ℕ
space = 32

abbrev pub comma : ℕ
comma = 44

-- how many bytes stand before the first `sep`, or all where there is none
unfoldable pub until : ℕ → List ℕ → ℕ
until sep [] = zero
until sep (b ∷ l) = cond (eqb b sep) zero (suc (until sep l))

-- what stands behind the first n spaces, nothing where there are fewer
unfoldable pub behind : ℕ → List ℕ → List ℕ
behind zero l = l
behind (suc n) [] = []
behind (suc n) (b ∷ l) = cond (eqb b space) (behind n l) (behind (suc n) l)

-- `b` put in front of the first piece
unfoldable pub extend : ℕ → List (List ℕ) → List (List ℕ)
extend b [] = (b ∷ []) ∷ []
extend b (p ∷ ps) = (b ∷ p) ∷ ps

-- the pieces; an empty rest gives `last`, and a rest that no separator ends is a piece too (test 1 lets none pass)
unfoldable pub pieces : List (List ℕ) → ℕ → List ℕ → List (List ℕ)
pieces last sep [] = last
pieces last sep (b ∷ l) = cond (eqb b sep) ([] ∷ pieces last sep l) (extend b (pieces last sep l))

-- the pieces between separators: one more than there are separators
abbrev pub split : ℕ → List ℕ → List (List ℕ)
split = pieces ([] ∷ [])

-- the lines, each without the LF that ends it
abbrev pub lines : List ℕ → List (List ℕ)
lines = pieces [] LF

-- the bytes of some lines, each with the LF that ends it
unfoldable pub unlines : List (List ℕ) → List ℕ
unlines [] = []
unlines (l ∷ ls) = l ++ LF ∷ unlines ls
