-- `checker::examine` meets its contract. Assumes nothing.
use native.Mathlib.Omega.{arith}
use mathlib.Core.Path.{sym, ◌∙◌}
use Rattle.checker.specs.Laws.Job.{badly_ended}
use Rattle.checker.proofs.examine.Goals as goal

pub returns-then-not-well_ended : goal.returns-then-not-well_ended
returns-then-not-well_ended c = badly_ended c.refused.ensures (sym c.well_ended.ensures ∙ c.if-not-well_ended.true)

pub all_lines-requires : goal.all_lines-requires
all_lines-requires c = (sym c.well_ended.ensures ∙ c.if-not-well_ended.false, omega arith)
