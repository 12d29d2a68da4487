-- `check_values::floats::weight` meets its contract. Assumes nothing.
use mathlib.Core.Path.{sym, ◌∙◌}
use Rattle.check_values.specs.Laws.Floats.{no_weight, weight_fails, weight_passes}
use Rattle.check_values.proofs.floats.weight.Goals as goal

pub returns-in_err-w : goal.returns-in_err-w
returns-in_err-w c = rw c.from_residual.ensures (no_weight _ (sym c.in_err-w.was ∙ c.float_of.ensures))

pub returns-then-not-is_weight : goal.returns-then-not-is_weight
returns-then-not-is_weight c = weight_fails _ (sym c.in_ok-w.was ∙ c.float_of.ensures) (sym c.is_weight.ensures ∙ c.if-not-is_weight.true)

pub returns : goal.returns
returns c = weight_passes _ (sym c.in_ok-w.was ∙ c.float_of.ensures) (sym c.is_weight.ensures ∙ c.if-not-is_weight.false)
