-- Rows of the table, and their bytes. Definitions. Assumes nothing.
use Rattle.std.specs.Prelude.{ℕ, zero, suc, ◌+◌, ◌-◌, ◌*◌, ◌≡◌, List, ◌++◌, length, take, drop}
use Rattle.text.specs.Bytes.{unlines}
use Rattle.text.specs.Number.{decimal}

-- the bytes of a row with its LF, and of the rows of so many elements from number e on
unfoldable pub row_bytes : ℕ → ℕ → ℕ → ℕ
row_bytes groups line e = 18 + length (decimal line) + groups + length (decimal e)

unfoldable pub rows_bytes : ℕ → ℕ → ℕ → ℕ → ℕ
rows_bytes groups line zero e = 0
rows_bytes groups line (suc left) e = row_bytes groups line e + rows_bytes groups line left (suc e)

-- rows were put before a place, from r on
pub record RowsBefore (place r : ℕ) (rows : List (List ℕ)) (out after : List ℕ) : Type 0 where
  pub begins : r + length (unlines rows) ≡ place
  pub bytes : drop r after ≡ unlines rows ++ drop place out

-- the characters that are kept of element e of n
abbrev pub kept_at : ℕ → ℕ → List ℕ → ℕ → List ℕ
kept_at groups n kept e = take groups (drop ((64 - n + e) * 16) kept)
