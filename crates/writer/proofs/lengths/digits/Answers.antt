use Rattle.writer.specs.Laws.Lengths.{none_cut, digit_cut, all_cut}
use native.Mathlib.Omega.{arith}
use Rattle.writer.proofs.lengths.digits.Goals as goal

pub loop-rest-init : goal.loop-rest-init
loop-rest-init c = none_cut c.ranges.n.fits

pub overflow_add-count : goal.overflow_add-count
overflow_add-count c = omega (arith, c.loop-rest.invariant.few)

pub loop-rest-smaller : goal.loop-rest-smaller
loop-rest-smaller c = omega arith

pub loop-rest-preserved : goal.loop-rest-preserved
loop-rest-preserved c = digit_cut c.loop-rest.invariant (omega arith)

pub returns : goal.returns
returns c = all_cut c.loop-rest.invariant c.loop-rest-test.false
