-- `choice::mark` meets its contract.
use Rattle.draws.specs.Draws.{is_positive}
use Rattle.choice.specs.Choice.{marked}
use Rattle.choice.specs.Laws.Marks.{minus_one}
use Rattle.choice.proofs.mark.Goals as goal

pub returns-then-positive_behind : goal.returns-then-positive_behind
unfolding marked is_positive
returns-then-positive_behind c = rw (c.if-weight.true, c.if-positive_behind.true)

pub returns-then-weight : goal.returns-then-weight
unfolding marked is_positive
returns-then-weight c = rw (c.if-weight.true, c.if-positive_behind.false)

pub returns : goal.returns
unfolding marked is_positive
returns c = rw c.if-weight.false minus_one
