use native.Mathlib.Omega.{arith}
use Rattle.instructions.specs.Laws.Lines.{left_known}
use Rattle.fault_table.specs.Laws.Measuring.{measure_none, measure_ends, measure_wide, said_small, measure_more, bytes_small}
use Rattle.fault_table.proofs.measure.Goals as goal

pub loop-at-init : goal.loop-at-init
loop-at-init c = (measure_none _ c.requires.0 _, omega arith)

pub next_known-line-requires : goal.next_known-line-requires
next_known-line-requires c = (left_known c.loop-at.invariant.0.left c.loop-at-test.true, omega (arith, c.loop-at.invariant.1))

pub returns-then-is_wide : goal.returns-then-is_wide
returns-then-is_wide c = measure_wide _ c.requires.0 _ c.loop-at.invariant.0 c.next_known-line.ensures c.is_wide.ensures c.if-is_wide.true

pub line_bytes-bytes-requires : goal.line_bytes-bytes-requires
line_bytes-bytes-requires c = (c.requires.1, said_small _ c.requires.0 _ c.loop-at.invariant.0 c.next_known-line.ensures c.is_wide.ensures c.if-is_wide.false)

pub overflow_add-bytes : goal.overflow_add-bytes
overflow_add-bytes c = let s = bytes_small _ c.requires.0 _ c.loop-at.invariant.0 c.next_known-line.ensures c.is_wide.ensures c.if-is_wide.false c.line_bytes-bytes.ensures c.requires.1 in omega (arith, s, c.loop-at.invariant.0.left.within, c.loop-at.invariant.0.left.size)

pub overflow_add-at : goal.overflow_add-at
overflow_add-at c = omega (arith, c.next_known-line.ensures.place.inside, c.loop-at.invariant.0.left.size)

pub overflow_add-k : goal.overflow_add-k
overflow_add-k c = omega (arith, c.loop-at.invariant.0.left.number, c.loop-at.invariant.0.left.within, c.loop-at.invariant.0.left.size)

pub loop-at-smaller : goal.loop-at-smaller
loop-at-smaller c = omega (arith, c.next_known-line.ensures.place.inside, c.next_known-line.ensures.place.begins)

pub loop-at-preserved : goal.loop-at-preserved
loop-at-preserved c = (measure_more _ c.requires.0 _ c.loop-at.invariant.0 c.next_known-line.ensures c.is_wide.ensures c.if-is_wide.false c.line_bytes-bytes.ensures c.requires.1, omega (arith, c.next_known-line.auto, c.loop-at.invariant.1))

pub returns : goal.returns
returns c = measure_ends _ c.requires.0 _ c.loop-at.invariant.0 c.loop-at-test.false
