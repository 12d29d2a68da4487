-- `check_values::floats::is_weight` meets its contract. Assumes nothing.
use lib.Ieee.{nan_bits}
use mathlib.Core.Bool.{not}
use mathlib.Core.Path.{ap, ◌∙◌}
use Rattle.check_values.specs.Laws.Floats.{weight_below, weight_else}
use Rattle.check_values.proofs.floats.is_weight.Goals as goal

pub float_from_bits-result : goal.float_from_bits-result
unfolding nan_bits
float_from_bits-result c = tt

pub returns-then-not-x : goal.returns-then-not-x
returns-then-not-x c = weight_else _ c.if-not-x.true

pub returns-else-not-x : goal.returns-else-not-x
returns-else-not-x c = ap not c.if-not-x.false ∙ weight_below _ c.if-not-x.false
