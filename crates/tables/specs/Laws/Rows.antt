-- The rows of a Clifford's table as words, bit by bit. Laws. Assumes nothing.
use Rattle.std.specs.Prelude.{ℕ, suc, ◌+◌, ◌*◌, ◌/◌, ◌^◌, ◌≤◌, ◌<◌, ◌≡◌}
use Rattle.std.proofs.Common.{mod-lt, mul-le-mul_left, arith, ◌∙◌, pow_pos}
use Rattle.pauli.specs.Bits.{bit}
use Rattle.pauli.proofs.Laws.Word.{bit_shr, bit_mod}
use Rattle.tables.specs.Rows.{row_word}

-- a row ends among the 4k² bits of the table
pub row_ends : (k r : ℕ) → r < 2 * k → 2 * k * r + 2 * k ≤ 4 * (k * k)
row_ends k r h = omega (arith, mul-le-mul_left {m = suc r} {n = 2 * k} (2 * k) h)

-- it has 2k bits, those of the table from its first on
pub row_small : (k t r : ℕ) → row_word k t r < 2 ^ (2 * k)
unfolding row_word
row_small k t r = mod-lt _ (pow_pos (2 * k))

pub row_bit : (k t r j : ℕ) → j < 2 * k → bit (row_word k t r) j ≡ bit t (2 * k * r + j)
unfolding row_word
row_bit k t r j h = bit_mod (t / 2 ^ (2 * k * r)) (2 * k) j h ∙ bit_shr t (2 * k * r) j
