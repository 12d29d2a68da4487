-- `check_values::floats::is_total` meets its contract. Assumes nothing.
use lib.Ieee.{nan_bits}
use mathlib.Core.Path.{◌∙◌}
use Rattle.check_values.specs.Laws.Floats.{total_above, total_else}
use Rattle.check_values.proofs.floats.is_total.Goals as goal

pub float_from_bits-result : goal.float_from_bits-result
unfolding nan_bits
float_from_bits-result c = tt

pub returns-then-t : goal.returns-then-t
returns-then-t c = total_above _ c.if-t.true

pub returns-else-t : goal.returns-else-t
returns-else-t c = c.if-t.false ∙ total_else _ c.if-t.false
