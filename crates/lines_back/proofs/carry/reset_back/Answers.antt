use native.Mathlib.Omega.{arith}
use mathlib.Core.Path.{refl}
use Rattle.job.proofs.Laws.Lists.{below_at}
use Rattle.lines_back.specs.Laws.Parts.{one_cleared, none_to_clear}
use Rattle.lines_back.proofs.carry.reset_back.Goals as goal

pub loop-q-init : goal.loop-q-init
loop-q-init c = record { within = omega arith; same = refl }

pub clear_qubit-r-requires : goal.clear_qubit-r-requires
clear_qubit-r-requires c = rw c.from.ensures (below_at 256 _ c.requires _ (omega arith))

pub loop-q-preserved : goal.loop-q-preserved
loop-q-preserved c = one_cleared c.loop-q.invariant _ c.loop-q-test.true (rw c.from.ensures at c.clear_qubit-r.ensures)

pub returns : goal.returns
returns c = none_to_clear c.loop-q.invariant c.loop-q-test.false
