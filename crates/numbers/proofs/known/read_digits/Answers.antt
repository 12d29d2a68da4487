use native.Mathlib.Omega.{arith}
use mathlib.Core.Path.{refl}
use Rattle.numbers.specs.Laws.Known.{counted_start, counted_fits, counted_next, counted_stop, counted_end}
use Rattle.numbers.proofs.known.read_digits.Goals as goal

pub loop-i-init : goal.loop-i-init
loop-i-init c = counted_start c.requires

pub bounds-s-i : goal.bounds-s-i
bounds-s-i c = omega arith

pub returns-then-b-lt48 : goal.returns-then-b-lt48
returns-then-b-lt48 c = counted_stop c.loop-i.invariant (omega arith) c.if-b-lt48.true _ refl refl

pub overflow_mul-v : goal.overflow_mul-v
overflow_mul-v c = omega (arith, counted_fits c.loop-i.invariant (omega arith) c.if-b-lt48.false)

pub overflow_cast-v : goal.overflow_cast-v
overflow_cast-v c = omega (arith, counted_fits c.loop-i.invariant (omega arith) c.if-b-lt48.false)

pub overflow_add-v : goal.overflow_add-v
overflow_add-v c = omega (arith, counted_fits c.loop-i.invariant (omega arith) c.if-b-lt48.false)

pub overflow_add-i : goal.overflow_add-i
overflow_add-i c = omega arith

pub loop-i-smaller : goal.loop-i-smaller
loop-i-smaller c = omega arith

pub loop-i-preserved : goal.loop-i-preserved
loop-i-preserved c = counted_next c.loop-i.invariant (omega arith) c.if-b-lt48.false

pub returns : goal.returns
returns c = counted_end c.loop-i.invariant (omega arith) _ refl refl
