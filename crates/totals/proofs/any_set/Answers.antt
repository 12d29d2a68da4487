use Rattle.std.proofs.Common.{arith}
use borrow.Author.Tests.{eqb-true, not-false}
use Rattle.totals.specs.Laws.Ones.{none_next}
use Rattle.totals.proofs.any_set.Goals as goal

pub loop-word-init : goal.loop-word-init
loop-word-init c = λ _ k h. absurd (omega arith)

pub loop-word-preserved : goal.loop-word-preserved
loop-word-preserved c = none_next c.args.words.now c.loop-word.word-index c.loop-word.sum c.loop-word.invariant

pub returns : goal.returns
returns c = λ e i h. c.loop-word.invariant (eqb-true _ _ (not-false _ e)) i (omega arith)
