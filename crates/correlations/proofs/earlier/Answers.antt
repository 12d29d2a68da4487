-- `correlations::earlier` meets its contract. Assumes nothing.
use Rattle.correlations.specs.Laws.Rounds.{earlier_first, earlier_second, earlier_least}
use Rattle.correlations.proofs.earlier.Goals as goal

pub returns-in_default : goal.returns-in_default
returns-in_default c = rw c.in_default.is (earlier_second _)

pub returns-in_default-b : goal.returns-in_default-b
returns-in_default-b c = rw (c.in-Some.is, c.in_default-b.is) (earlier_first _)

pub returns : goal.returns
returns c = rw (c.in-Some.is, c.in-Some-b.is) (earlier_least _ _ _ c.min.ensures)
