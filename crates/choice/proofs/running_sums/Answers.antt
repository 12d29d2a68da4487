use mathlib.Core.Path.{refl, ◌∙◌}
use native.Mathlib.Omega.{arith}
use lib.ListN.{length-set}
use borrow.Author.Rules.{rules}
use Rattle.choice.specs.Laws.Sums.{running_step, running_end}
use Rattle.choice.proofs.running_sums.Goals as goal

pub loop-i-init : goal.loop-i-init
loop-i-init c = (c.requires.1, search rules, refl)

pub loop-i-preserved : goal.loop-i-preserved
loop-i-preserved c = (
  simp length-set c.loop-i.invariant.0,
  omega arith,
  running_step _ _ _ _ _ c.loop-i-test.true (omega arith) ∙ c.loop-i.invariant.2,
)

pub shape_of-sums : goal.shape_of-sums
shape_of-sums c = simp length-set (omega arith)

pub returns : goal.returns
returns c = running_end _ _ _ _ _ c.loop-i.invariant.0 c.loop-i-test.false c.requires.2 c.loop-i.invariant.2
