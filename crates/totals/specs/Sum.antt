-- The sum modulo 2 of listed rows in one shot. Definition. Assumes nothing.
use Rattle.std.specs.Prelude.{cond, List, ℕ}
use Rattle.pauli.specs.Bits.{sum_over}
use Rattle.rows.specs.Column.{column}

-- of a set's deltas, in rows of w words
unfoldable pub delta_sum_of : ℕ → List ℕ → ℕ → List ℕ → ℕ
delta_sum_of w deltas shot set = cond (sum_over set (column w deltas shot)) 1 0
