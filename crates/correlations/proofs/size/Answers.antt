-- `correlations::size` meets its contract. Assumes nothing.
use Rattle.std.proofs.Common.{inl, inr}
use mathlib.Core.Path.{◌∙◌}
use Rattle.correlations.specs.Laws.Sizes.{size_uniform, size_weighted, size_other}
use Rattle.correlations.proofs.size.Goals as goal

pub returns-in-Uniform : goal.returns-in-Uniform
returns-in-Uniform c = λ vs n s. elim c.in-Uniform.is [ inl e ↦ c.number.ensures ∙ size_uniform (rw e at s) | inr e ↦ c.number.ensures ∙ size_weighted (rw e at s) ]

pub returns-in_default : goal.returns-in_default
returns-in_default c = λ vs n s. c.number-in_default.ensures ∙ size_other _ c.in_default.not-Uniform c.in_default.not-Weighted s
