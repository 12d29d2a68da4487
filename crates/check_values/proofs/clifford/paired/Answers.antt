-- `check_values::clifford::paired` meets its contract. Assumes nothing.
use borrow.Author.Tests.{eq-eqb, ne_eqb}
use Rattle.job.specs.Clifford.{generators_anticommute}
use Rattle.check_values.proofs.clifford.paired.Goals as goal

pub returns-then-s-r : goal.returns-then-s-r
unfolding generators_anticommute
returns-then-s-r c = simp (eq-eqb _ _ c.if-s-r.true)

pub returns-else-s-r : goal.returns-else-s-r
unfolding generators_anticommute
returns-else-s-r c = simp (ne_eqb _ _ c.if-s-r.false)
