-- `lines_back::carry::multiply_if` meets its contract. Assumes nothing.
use mathlib.Core.Path.{sym, ◌∙◌}
use Rattle.pauli.proofs.Laws.Group.{∗_identity, when_true, when_false}
use Rattle.lines_back.proofs.carry.multiply_if.Goals as goal

pub returns-then-not-on : goal.returns-then-not-on
returns-then-not-on c = rw (c.if-not-on.true, when_false) (sym (∗_identity _))

pub returns : goal.returns
returns c = c.multiply.ensures ∙ rw (c.if-not-on.false, when_true)
