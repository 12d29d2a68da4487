-- `totals::count_few` meets its contract. Assumes nothing.
use Rattle.std.proofs.Common.{sym}
use Rattle.totals.specs.Laws.Ones.{each_none}
use Rattle.totals.proofs.count_few.Goals as goal

pub returns-else-any_set : goal.returns-else-any_set
returns-else-any_set c = sym (each_none _ (c.any_set.ensures c.if-any_set.false))
