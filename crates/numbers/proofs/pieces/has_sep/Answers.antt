use native.Mathlib.Omega.{arith}
use borrow.Author.Tests.{eqb-true, not-false}
use Rattle.numbers.specs.Laws.Pieces.{unseen_none, unseen_more, unseen_all}
use Rattle.numbers.proofs.pieces.has_sep.Goals as goal

pub loop-i-init : goal.loop-i-init
loop-i-init c = (omega arith, unseen_none)

pub overflow_add-seen : goal.overflow_add-seen
overflow_add-seen c = omega arith

pub bounds-s-at : goal.bounds-s-at
bounds-s-at c = omega arith

pub loop-i-preserved : goal.loop-i-preserved
loop-i-preserved c = (omega arith, unseen_more c.loop-i.invariant.1 (omega arith))

pub returns : goal.returns
returns c = λ e. unseen_all c.loop-i.invariant.1 (omega arith) (eqb-true _ _ (not-false _ e))
