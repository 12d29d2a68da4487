-- `row_loops::sum_listed` meets its contract.
use Rattle.row_loops.proofs.sum_listed.Goals as goal

pub returns : goal.returns
returns c = rw c.clear.ensures at c.add_listed.ensures
