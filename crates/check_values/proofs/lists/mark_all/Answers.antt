use native.Mathlib.Omega.{arith}
use Rattle.check_values.specs.Laws.Overlap.{none_marked, next_marked, all_marked}
use Rattle.check_values.proofs.lists.mark_all.Goals as goal

pub loop-q-init : goal.loop-q-init
loop-q-init c = (omega arith, none_marked _ c.requires)

pub loop-q-preserved : goal.loop-q-preserved
loop-q-preserved c =
    let inv = c.loop-q.invariant in
    let within = c.loop-q-test.true in
    (omega arith, next_marked _ _ within inv.1 (rw c.from.ensures at c.mark.ensures))

pub shape_of-marks : goal.shape_of-marks
shape_of-marks c = c.loop-q.invariant.1.size

pub returns : goal.returns
returns c = all_marked _ c.loop-q.q-index c.loop-q-test.false c.loop-q.invariant.1
