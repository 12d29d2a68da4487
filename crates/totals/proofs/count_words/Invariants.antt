-- `totals::count_words` meets its contract: the bits of the words so far are counted. Assumes nothing.
use Rattle.std.proofs.Common.{◌≡◌, ◌*◌}
use Rattle.rows.specs.Words.{bit_in}
use Rattle.totals.specs.Ones.{ones_to}
use Rattle.totals.proofs.count_words.Given as goal

abbrev pub invariant-loop-word : goal.invariant-loop-word
invariant-loop-word l = l.ones ≡ ones_to (64 * l.word-index) (bit_in 1 l.words 0)
