-- `check_values::context::no_context` meets its contract. Assumes nothing.
use mathlib.Core.Path.{refl}
use Rattle.job.specs.Checks.{no_context_of}
use Rattle.check_values.specs.Contexts.{total_if, context_of}
use Rattle.check_values.proofs.context.no_context.Goals as goal

pub returns : goal.returns
unfolding context_of no_context_of total_if
returns c = refl
