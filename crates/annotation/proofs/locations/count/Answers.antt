use mathlib.Core.Path.{refl}
use Rattle.instructions.specs.Laws.Lines.{left_known, some_read}
use Rattle.annotation.specs.Laws.Counting.{count_none, count_more, count_all}
use native.Mathlib.Omega.{arith}
use Rattle.annotation.proofs.locations.count.Goals as goal

pub loop-at-init : goal.loop-at-init
loop-at-init c = (count_none _ c.requires, refl, omega arith)

pub next_known-line-requires : goal.next_known-line-requires
next_known-line-requires c = (left_known c.loop-at.invariant.0.left c.loop-at-test.true, omega (arith, c.loop-at.invariant.2))

pub located-n-requires : goal.located-n-requires
located-n-requires c = (some_read c.loop-at.invariant.0.left c.next_known-line.ensures, omega (arith, c.loop-at.invariant.1))

pub overflow_mul-total : goal.overflow_mul-total
overflow_mul-total c = omega (arith, c.located-n.ensures.few)

pub overflow_add-total : goal.overflow_add-total
overflow_add-total c = omega (arith, c.located-n.ensures.few, c.loop-at.invariant.0.bound, c.loop-at.invariant.0.left.within, c.loop-at.invariant.0.left.size)

pub overflow_add-at : goal.overflow_add-at
overflow_add-at c = omega (arith, c.next_known-line.ensures.place.inside, c.loop-at.invariant.0.left.size)

pub loop-at-smaller : goal.loop-at-smaller
loop-at-smaller c = omega (arith, c.next_known-line.ensures.place.inside, c.next_known-line.ensures.place.begins)

pub loop-at-preserved : goal.loop-at-preserved
loop-at-preserved c = (count_more c.loop-at.invariant.0 c.next_known-line.ensures c.located-n.ensures (omega (arith, c.located-n.ensures.few, c.located-n.auto, c.loop-at.invariant.1)), omega (arith, c.loop-at.invariant.1, c.located-n.auto), omega (arith, c.next_known-line.auto, c.loop-at.invariant.2))

pub returns : goal.returns
returns c = count_all c.loop-at.invariant.0 c.loop-at-test.false
