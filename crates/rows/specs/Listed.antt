-- Operations on the rows of a list, w words a row: definitions that contracts cite. Assumes nothing.
use Rattle.std.specs.Prelude.{List, [], ◌∷◌, ℕ, suc, ◌+◌, ◌*◌, ◌<◌, ◌≤◌, length, get_or}
use Rattle.rows.specs.Overwrite.{copied}

-- each listed row lies in the words
pub record RowsIn (w : ℕ) (list words : List ℕ) : Type 0 where
  pub fits : (i : ℕ) → i < length list → get_or list i 0 * w + w ≤ length words

-- l after a step for each listed row, in order
unfoldable pub over_list : (ℕ → List ℕ → List ℕ) → List ℕ → List ℕ → List ℕ
over_list step [] l = l
over_list step (q ∷ qs) l = over_list step qs (step q l)

-- l, of which the rows from r on are the listed rows of src
unfoldable pub collected : ℕ → List ℕ → ℕ → List ℕ → List ℕ → List ℕ
collected w src r [] l = l
collected w src r (q ∷ qs) l = collected w src (suc r) qs (copied (r * w) (q * w) w src l)
