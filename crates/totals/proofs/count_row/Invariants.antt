-- `totals::count_row` meets its contract: what is left to count, from here, comes to the whole. Assumes nothing.
use Rattle.std.proofs.Common.{◌≡◌, ◌+◌, ◌*◌, ◌≤◌, length}
use Rattle.rows.specs.Words.{bit_in}
use Rattle.totals.specs.Ones.{ones_to, ones_in}
use Rattle.totals.proofs.count_row.Given as goal

abbrev pub invariant-loop-block : goal.invariant-loop-block
invariant-loop-block l = (l.ones + ones_in l.left ≡ ones_to (64 * l.w) (bit_in l.w l.rows l.r)) × (length l.left ≤ l.w)

abbrev pub decreases-loop-block : goal.decreases-loop-block
decreases-loop-block l = length l.left
