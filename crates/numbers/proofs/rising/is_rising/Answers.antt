use native.Mathlib.Omega.{arith}
use mathlib.Core.Path.{refl, sym, ◌∙◌}
use Rattle.numbers.specs.Laws.Rising.{rising_fails, rising_next, rising_end}
use Rattle.numbers.proofs.rising.is_rising.Goals as goal

pub loop-i-init : goal.loop-i-init
loop-i-init c = (omega arith, refl)

pub offset_bounds-numbers-i : goal.offset_bounds-numbers-i
offset_bounds-numbers-i c = omega arith

pub bounds-numbers-i : goal.bounds-numbers-i
bounds-numbers-i c = omega arith

pub overflow_sub-i : goal.overflow_sub-i
overflow_sub-i c = omega arith

pub offset_bounds-numbers-i-in-loop-i : goal.offset_bounds-numbers-i-in-loop-i
offset_bounds-numbers-i-in-loop-i c = omega arith

pub bounds-numbers-i-in-loop-i : goal.bounds-numbers-i-in-loop-i
bounds-numbers-i-in-loop-i c = omega arith

pub returns-then-numbers-i : goal.returns-then-numbers-i
returns-then-numbers-i c = sym (c.loop-i.invariant.1 ∙ rising_fails _ _ c.loop-i.invariant.0 c.loop-i-test.true c.if-numbers-i.true)

pub loop-i-preserved : goal.loop-i-preserved
loop-i-preserved c = (omega arith, c.loop-i.invariant.1 ∙ rising_next _ _ c.loop-i.invariant.0 c.loop-i-test.true c.if-numbers-i.false)

pub returns : goal.returns
returns c = sym (c.loop-i.invariant.1 ∙ rising_end _ _ c.loop-i.invariant.0 c.loop-i-test.false)
