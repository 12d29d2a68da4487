use mathlib.Core.Path.{refl, sym, ◌∙◌}
use native.Mathlib.Omega.{arith}
use borrow.Author.Rules.{rules}
use Rattle.choice.specs.Laws.Sums.{total_step, total_end}
use Rattle.choice.proofs.total.Goals as goal

pub loop-weight-init : goal.loop-weight-init
loop-weight-init c = (search rules, refl)

pub loop-weight-preserved : goal.loop-weight-preserved
loop-weight-preserved c = (omega arith, total_step _ _ _ c.loop-weight-test.true ∙ c.loop-weight.invariant.1)

pub returns : goal.returns
returns c = sym (total_end _ _ _ c.loop-weight-test.false) ∙ c.loop-weight.invariant.1
