-- `by_shot::rows_of` meets its contract.
use Rattle.by_shot.specs.Laws.Block.{rows_least}
use Rattle.by_shot.proofs.rows_of.Goals as goal

pub returns : goal.returns
returns c = rw c.min.ensures (rows_least _ _)
