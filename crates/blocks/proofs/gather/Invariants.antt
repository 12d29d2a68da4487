-- `blocks::gather` meets its contract: the words so far are in the block.
use Rattle.std.proofs.Common.{ℕ, ◌+◌, ◌*◌, ◌<◌, ◌≡◌, length, get_or}
use Rattle.blocks.proofs.gather.Given as goal

abbrev pub invariant-loop-i : goal.invariant-loop-i
invariant-loop-i l = (length l.word-items ≡ l.n) × ((k : ℕ) → k < l.i → get_or l.word-items k 0 ≡ get_or l.src (l.from + k * l.step) 0)
