-- Bytes put into lent bytes from a place on; a byte whose place is past the end is left out, and counts all the same. Assumes nothing.
use Rattle.std.specs.Prelude.{◌≡◌, List, [], ◌∷◌, ℕ, suc, ◌+◌, length, set}

-- the lent bytes after a text was put at a place
unfoldable pub placed : ℕ → List ℕ → List ℕ → List ℕ
placed at [] out = out
placed at (b ∷ text) out = placed (suc at) text (set out at b)

-- A text was put at a place: the lent bytes before and after, and the place after the text.
pub record Puts (at : ℕ) (text out after : List ℕ) (next : ℕ) : Type 0 where
  pub bytes : after ≡ placed at text out
  pub place : next ≡ at + length text
