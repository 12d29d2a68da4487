-- `check_values::lists::slot_distinct` meets its contract. Assumes nothing.
use native.Mathlib.Omega.{arith}
use mathlib.Core.Path.{ap, ◌∙◌}
use Rattle.job.specs.Checks.{distinct as Checks·distinct}
use Rattle.template.specs.Laws.Fields.{list_held}
use Rattle.check_values.proofs.lists.slot_distinct.Goals as goal

pub returns : goal.returns
returns c = λ numbers lists vs h g. c.distinct.ensures ∙ ap Checks·distinct (c.list.ensures ∙ list_held h (omega arith) _ g (omega arith))
