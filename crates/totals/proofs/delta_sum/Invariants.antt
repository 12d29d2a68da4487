-- `totals::delta_sum` meets its contract. Assumes nothing.
use mathlib.Core.Path.{◌≡◌}
use Rattle.pauli.specs.Bits.{sum_over}
use Rattle.rows.specs.Column.{column}
use Rattle.totals.specs.Laws.Sum.{sum_from}
use Rattle.totals.proofs.delta_sum.Given as goal

abbrev pub invariant-loop-k : goal.invariant-loop-k
invariant-loop-k l = sum_from l.w l.deltas l.s l.set l.word l.k ≡ sum_over l.set (column l.w l.deltas l.s)
