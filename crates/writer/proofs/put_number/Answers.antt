use mathlib.Core.Path.{refl}
use lib.ListN.{length-set}
use Rattle.writer.specs.Laws.Placing.{puts_past}
use Rattle.writer.specs.Laws.Digits.{no_digits, more_left, digit_stored, all_stored}
use native.Mathlib.Omega.{arith}
use Rattle.writer.proofs.put_number.Goals as goal

pub digits-requires : goal.digits-requires
digits-requires c = tt

pub overflow_add-result : goal.overflow_add-result
overflow_add-result c = omega (arith, c.digits.ensures, c.requires)

pub returns-then-out-at : goal.returns-then-out-at
returns-then-out-at c = rw c.digits.ensures (puts_past _ _ _ c.if-out-at.true)

pub loop-rest-init : goal.loop-rest-init
loop-rest-init c = (omega arith, no_digits _ _ c.ranges.n.fits refl)

pub overflow_sub-i : goal.overflow_sub-i
overflow_sub-i c = omega (arith, more_left c.loop-rest.invariant.1 c.loop-rest-test.true)

pub overflow_cast-text : goal.overflow_cast-text
overflow_cast-text c = omega arith

pub overflow_add-text : goal.overflow_add-text
overflow_add-text c = omega arith

pub bounds-text-i : goal.bounds-text-i
bounds-text-i c = omega arith

pub loop-rest-smaller : goal.loop-rest-smaller
loop-rest-smaller c = omega arith

pub loop-rest-preserved : goal.loop-rest-preserved
loop-rest-preserved c = (omega arith, digit_stored c.loop-rest.invariant.1 c.loop-rest-test.true c.loop-rest.invariant.0)

pub overflow_sub-i-2 : goal.overflow_sub-i-2
overflow_sub-i-2 c = omega arith

pub overflow_cast-text-2 : goal.overflow_cast-text-2
overflow_cast-text-2 c = omega arith

pub overflow_add-text-2 : goal.overflow_add-text-2
overflow_add-text-2 c = omega arith

pub bounds-text-i-2 : goal.bounds-text-i-2
bounds-text-i-2 c = omega arith

pub slice_bounds-put_bytes-count : goal.slice_bounds-put_bytes-count
slice_bounds-put_bytes-count c = omega arith

pub slice_bounds-put_bytes-start : goal.slice_bounds-put_bytes-start
slice_bounds-put_bytes-start c = omega arith

pub slice_bounds-put_bytes-end : goal.slice_bounds-put_bytes-end
slice_bounds-put_bytes-end c = simp length-set (omega (arith, c.loop-rest.invariant.1.size))

pub put_bytes-requires : goal.put_bytes-requires
put_bytes-requires c = rw (all_stored c.loop-rest.invariant.1 c.loop-rest-test.false c.loop-rest.invariant.0) c.requires

pub returns : goal.returns
returns c = rw (all_stored c.loop-rest.invariant.1 c.loop-rest-test.false c.loop-rest.invariant.0) at c.put_bytes.ensures
