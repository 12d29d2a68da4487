-- `numbers::lists::list_q` meets its contract. Assumes nothing.
use Rattle.text.specs.List.{list_Q}
use Rattle.numbers.proofs.lists.list_q.Goals as goal

pub returns : goal.returns
unfolding list_Q
returns c = c.list_by.ensures
