-- `lines_back::flip` meets its contract. Assumes nothing.
use mathlib.Core.Path.{sym, ◌∙◌}
use borrow.Author.Tests.{eq-eqb, ne_eqb}
use Rattle.lines_back.specs.Laws.Kinds.{flip_goes}
use native.Mathlib.Omega.{arith}
use Rattle.lines_back.proofs.flip.Goals as goal

pub number-requires : goal.number-requires
number-requires c = omega arith

pub returns-then-number-shot : goal.returns-then-number-shot
returns-then-number-shot c = λ b. flip_goes (sym (rw (← c.number.ensures, ne_eqb _ _ c.if-number-shot.true)))

pub number-requires-2 : goal.number-requires-2
number-requires-2 c = omega arith

pub returns : goal.returns
returns c = λ b. flip_goes ((rw c.number-2.ensures at c.has_outcome.ensures) ∙ rw (← c.number.ensures, eq-eqb _ _ c.if-number-shot.false))
