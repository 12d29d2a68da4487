use Rattle.instructions.specs.Laws.Lines.{left_known}
use Rattle.correlations.specs.Laws.Loops.{compare_none, compare_stops, compare_more, compare_ends}
use native.Mathlib.Omega.{arith}
use Rattle.correlations.proofs.compare.Goals as goal

pub loop-at-init : goal.loop-at-init
loop-at-init c = (compare_none c.requires.0, omega arith)

pub next_known-line-requires : goal.next_known-line-requires
next_known-line-requires c = (left_known c.loop-at.invariant.0.left c.loop-at-test.true, omega (arith, c.loop-at.invariant.1))

pub look-requires : goal.look-requires
look-requires c = (c.requires.1, c.requires.2)

pub returns-in-Err : goal.returns-in-Err
returns-in-Err c = compare_stops c.loop-at.invariant.0 c.next_known-line.ensures c.look.ensures.is c.in-Err.is

pub overflow_add-at : goal.overflow_add-at
overflow_add-at c = omega (arith, c.next_known-line.ensures.place.inside, c.loop-at.invariant.0.left.size)

pub overflow_add-k : goal.overflow_add-k
overflow_add-k c = omega (arith, c.loop-at.invariant.0.left.number, c.loop-at.invariant.0.left.within, c.loop-at.invariant.0.left.size)

pub loop-at-smaller : goal.loop-at-smaller
loop-at-smaller c = omega (arith, c.next_known-line.ensures.place.inside, c.next_known-line.ensures.place.begins)

pub loop-at-preserved : goal.loop-at-preserved
loop-at-preserved c = (compare_more c.loop-at.invariant.0 c.next_known-line.ensures c.look.ensures.is c.in_default.is, omega (arith, c.next_known-line.auto, c.loop-at.invariant.1))

pub returns : goal.returns
returns c = compare_ends c.loop-at.invariant.0 c.loop-at-test.false
