-- `instructions::element_lines` meets its contract. Assumes nothing.
use mathlib.Core.Path.{◌∙◌}
use Rattle.instructions.specs.Laws.Meaning.{lines_uniform, lines_weighted, lines_alone}
use Rattle.instructions.proofs.element_lines.Goals as goal

pub returns-in-Uniform : goal.returns-in-Uniform
returns-in-Uniform c = λ vs n h. c.number.ensures ∙ lines_uniform (rw c.in-Uniform.is at h)

pub returns-in-Weighted : goal.returns-in-Weighted
returns-in-Weighted c = λ vs n h. c.number-in-Weighted.ensures ∙ lines_weighted (rw c.in-Weighted.is at h)

pub returns-in_default : goal.returns-in_default
returns-in_default c =
    λ vs n h.
    lines_alone
    c.in_default.not-Uniform
    c.in_default.not-Weighted
    h
