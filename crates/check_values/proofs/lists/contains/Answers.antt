use native.Mathlib.Omega.{arith}
use mathlib.Core.Path.{refl, sym, ◌∙◌}
use Rattle.check_values.specs.Laws.Slots.{member_here, member_next, member_end}
use Rattle.check_values.proofs.lists.contains.Goals as goal

pub loop-m-init : goal.loop-m-init
loop-m-init c = (omega arith, refl)

pub returns-then-m-n : goal.returns-then-m-n
returns-then-m-n c = sym (c.loop-m.invariant.1 ∙ member_here _ _ _ c.loop-m-test.true c.if-m-n.true)

pub loop-m-preserved : goal.loop-m-preserved
loop-m-preserved c = (omega arith, c.loop-m.invariant.1 ∙ member_next _ _ _ c.loop-m-test.true c.if-m-n.false)

pub returns : goal.returns
returns c = sym (c.loop-m.invariant.1 ∙ member_end _ _ _ c.loop-m-test.false)
