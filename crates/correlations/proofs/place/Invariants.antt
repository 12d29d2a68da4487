-- `correlations::place` meets its contract. Assumes nothing.
use Rattle.correlations.specs.Laws.Links.{Sought}
use Rattle.correlations.proofs.place.Given as goal

abbrev pub invariant-loop-link : goal.invariant-loop-link
invariant-loop-link l = Sought l.correlation l.seen l.link

abbrev pub decreases-loop-link : goal.decreases-loop-link
decreases-loop-link l = l.link
