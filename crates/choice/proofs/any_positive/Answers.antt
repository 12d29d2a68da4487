-- `choice::any_positive` meets its contract.
use Rattle.draws.specs.Draws.{is_positive}
use Rattle.choice.proofs.any_positive.Goals as goal

pub returns-then-positive_behind : goal.returns-then-positive_behind
returns-then-positive_behind c = rw c.if-positive_behind.true

pub returns-else-positive_behind : goal.returns-else-positive_behind
unfolding is_positive
returns-else-positive_behind c = rw c.if-positive_behind.false
