-- `totals::recount` meets its contract. Assumes nothing.
use Rattle.totals.proofs.recount.Goals as goal

pub returns : goal.returns
returns c = rw c.count_row.ensures
