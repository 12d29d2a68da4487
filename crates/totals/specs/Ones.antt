-- How many are true. Definitions. Assumes nothing.
use Rattle.std.specs.Prelude.{cond, List, ℕ, zero, suc, ◌+◌, ◌*◌, length}
use Rattle.pauli.specs.Bits.{Bits}
use Rattle.rows.specs.Words.{bit_in}

-- how many of the first n
unfoldable pub ones_to : ℕ → Bits → ℕ
ones_to zero b = 0
ones_to (suc n) b = ones_to n b + cond (b n) 1 0

-- how many bits of these words
abbrev pub ones_in : List ℕ → ℕ
ones_in words = ones_to (64 * length words) (bit_in 1 words 0)
