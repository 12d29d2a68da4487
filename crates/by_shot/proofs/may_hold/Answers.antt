-- `by_shot::may_hold` meets its contract.
use Rattle.by_shot.specs.Reply.{may_hold_of}
use Rattle.by_shot.proofs.may_hold.Goals as goal

pub returns : goal.returns
unfolding may_hold_of
returns c = c.in_range.ensures
