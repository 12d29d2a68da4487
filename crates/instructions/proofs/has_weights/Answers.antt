-- `instructions::has_weights` meets its contract. Assumes nothing.
use mathlib.Core.Path.{sym}
use Rattle.instructions.specs.Laws.Meaning.{with_weights, without_weights}
use Rattle.instructions.proofs.has_weights.Goals as goal

pub returns-in-Weighted : goal.returns-in-Weighted
returns-in-Weighted c = λ vs n e. sym (with_weights _ vs n e c.in-Weighted.is)

pub returns-in_default : goal.returns-in_default
returns-in_default c = λ vs n e. sym (without_weights _ vs n e c.in_default.not-Weighted)
