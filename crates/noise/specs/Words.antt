-- Words that bring no fault, the word at a position, what follows a line's part, and the position behind the words that a line has read. Definitions.
-- Assumes nothing.
use Rattle.std.specs.Prelude.{◌≡◌, ℕ, zero, suc, ◌+◌, ◌<◌, ◌≤◌, cond, List, [], ◌∷◌, length, slice_index, Float, Some, None, Option as Given}
use Rattle.std.proofs.Math.Option.{Option, none, some}
use Rattle.draws.specs.Draws.{falls}

-- the first words, at most so many, that bring no fault
unfoldable pub skip_of : Float → ℕ → List ℕ → ℕ
skip_of p zero ws = 0
skip_of p (suc most) [] = 0
skip_of p (suc most) (w ∷ ws) = let more = suc (skip_of p most ws) in cond (falls w p) 0 more

-- the word at a position; or the words have ended there
unfoldable pub WordIs : List ℕ → ℕ → Given ℕ → Type 0
WordIs words at (Some w) = (at < length words) × (w ≡ slice_index words at)
WordIs words at None = length words ≤ at

pub record WordRead (words : List ℕ) (at : ℕ) (r : Given ℕ) : Type 0 where
  pub is : WordIs words at r

-- what follows the part that a noise line reads from, where more words follow that part of the main list: a line with corr reads the second list
-- alone
unfoldable pub more_of : Option ℕ → List ℕ → List ℕ
more_of none more = more
more_of (some c) more = []

-- the position in the main list after a noise line that has read so many words of its part
unfoldable pub position_after_of : Given ℕ → ℕ → ℕ → ℕ
position_after_of None position read = position + read
position_after_of (Some c) position read = position
