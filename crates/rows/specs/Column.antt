-- The rows as one shot sees them. Assumes nothing.
use Rattle.std.specs.Prelude.{List, ℕ}
use Rattle.pauli.specs.Bits.{Bits}
use Rattle.rows.specs.Words.{bit_in}

-- the rows that have a 1 in shot s: of the X parts or the Z parts of its frame, or of its deltas
unfoldable pub column : ℕ → List ℕ → ℕ → Bits
column w words s r = bit_in w words r s
