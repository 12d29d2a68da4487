-- `check_values::floats::probability` meets its contract. Assumes nothing.
use mathlib.Core.Path.{sym, ◌∙◌}
use Rattle.check_values.specs.Laws.Floats.{no_probability, above_one, not_above_one}
use Rattle.check_values.proofs.floats.probability.Goals as goal

pub returns-in_err-p : goal.returns-in_err-p
returns-in_err-p c = rw c.from_residual.ensures (no_probability _ (sym c.in_err-p.was ∙ c.float_of.ensures))

pub returns-then-p : goal.returns-then-p
returns-then-p c = above_one _ (sym c.in_ok-p.was ∙ c.float_of.ensures) c.if-p.true

pub returns : goal.returns
returns c = not_above_one _ (sym c.in_ok-p.was ∙ c.float_of.ensures) c.if-p.false
