-- `row_loops::clear` meets its contract: the words so far are 0.
use Rattle.std.proofs.Common.{ℕ, ◌<◌, ◌≡◌, length, get_or}
use Rattle.row_loops.proofs.clear.Given as goal

abbrev pub invariant-loop-word : goal.invariant-loop-word
invariant-loop-word l = (length l.word-items ≡ l.n) × ((k : ℕ) → k < l.word-index → get_or l.word-items k 0 ≡ 0)
