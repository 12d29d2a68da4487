-- `totals::any_set` meets its contract: where the sum is 0 the words so far are. Assumes nothing.
use Rattle.std.proofs.Common.{◌≡◌, ℕ, ◌<◌, get_or}
use Rattle.totals.proofs.any_set.Given as goal

abbrev pub invariant-loop-word : goal.invariant-loop-word
invariant-loop-word l = l.sum ≡ 0 → (k : ℕ) → k < l.word-index → get_or l.words k 0 ≡ 0
