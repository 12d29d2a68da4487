-- `tables::rows` meets its contract: the words so far are the rows. Assumes nothing.
use Rattle.std.proofs.Common.{ℕ, ◌*◌, ◌<◌, ◌≡◌, length, get_or}
use Rattle.job.specs.Clifford.{table_of}
use Rattle.tables.specs.Rows.{row_word}
use Rattle.tables.proofs.rows.Given as goal

abbrev pub invariant-loop-r : goal.invariant-loop-r
invariant-loop-r l = (length l.word-items ≡ 2 * l.k) × ((i : ℕ) → i < l.r → get_or l.word-items i 0 ≡ row_word l.k (table_of l.words) i)
