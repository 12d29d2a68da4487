-- A number for each row of a matrix of bits, equal to the ones in the row. Definitions. Assumes nothing.
use Rattle.std.specs.Prelude.{◌≡◌, List, ℕ, ◌*◌, ◌^◌, ◌<◌, length, get_or}
use Rattle.rows.specs.Words.{bit_in}
use Rattle.totals.specs.Ones.{ones_to}

-- of m rows, w words a row; a row has so few bits that its total fits a word
pub record TotalsHeld (w m : ℕ) (rows totals : List ℕ) : Type 0 where
  pub fits : 64 * w < 2 ^ 64
  pub long : length totals ≡ m
  pub are : (r : ℕ) → r < m → get_or totals r 0 ≡ ones_to (64 * w) (bit_in w rows r)
