-- `check_lines::elements::due_after` meets its contract. Assumes nothing.
use Rattle.std.proofs.Common.{inl, inr}
use Rattle.check_values.specs.Contexts.{context_of}
use mathlib.Core.Path.{◌∙◌}
use Rattle.check_lines.specs.Laws.Elements.{none_due, due_uniform, due_weighted, due_element, due_weighted_element}
use Rattle.instructions.specs.Laws.Meaning.{meaning}
use Rattle.check_lines.proofs.elements.due_after.Goals as goal

pub returns-in-Uniform : goal.returns-in-Uniform
returns-in-Uniform c = λ vs w h.
    elim c.in-Uniform.is [
      | inl e ↦ c.number.ensures ∙ due_uniform c.args.c (rw e at h)
      | inr e ↦ c.number.ensures ∙ due_weighted c.args.c (rw e at h)
    ]

pub returns-in-Element : goal.returns-in-Element
returns-in-Element c = λ vs w h.
    elim c.in-Element.is [
      | inl e ↦ c.saturating_sub.ensures ∙ due_element c.args.c (rw e at h)
      | inr e ↦ c.saturating_sub.ensures ∙ due_weighted_element c.args.c (rw e at h)
    ]

pub returns-in_default : goal.returns-in_default
returns-in_default c =
    λ vs w h.
    none_due (context_of c.args.c) c.args.form
    c.in_default.not-Uniform
    c.in_default.not-Weighted
    c.in_default.not-Element
    c.in_default.not-WeightedElement
    w
    (meaning _ vs w h.says)
