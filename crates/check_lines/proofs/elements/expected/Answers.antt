-- `check_lines::elements::expected` meets its contract. Assumes nothing.
use mathlib.Core.Path.{refl, sym, ◌∙◌}
use mathlib.Core.Bool.{true≢false}
use Rattle.check_lines.specs.Laws.Elements.{unread_said}
use Rattle.check_lines.specs.Laws.Elements.{unread_form, expected_other, expected_element, expected_weighted}
use Rattle.instructions.specs.Laws.Meaning.{meaning}
use Rattle.check_values.specs.Contexts.{context_of}
use Rattle.check_lines.proofs.elements.expected.Goals as goal

pub returns-in-Unread : goal.returns-in-Unread
returns-in-Unread c = (λ z. refl, λ vs w h. absurd (unread_said (rw c.in-Unread.is at h)))

pub returns-in-Element : goal.returns-in-Element
returns-in-Element c = (
  λ z. absurd (true≢false (sym (rw c.in-Element.is at z))),
  λ vs w h. c.element_due.ensures ∙ expected_element c.args.c (rw c.in-Element.is at h),
)

pub returns-in-WeightedElement : goal.returns-in-WeightedElement
returns-in-WeightedElement c = (
  λ z. absurd (true≢false (sym (rw c.in-WeightedElement.is at z))),
  λ vs w h. c.element_due-in-WeightedElement.ensures ∙ expected_weighted c.args.c (rw c.in-WeightedElement.is at h),
)

pub returns-in_default : goal.returns-in_default
unfolding context_of
returns-in_default c = (
  λ z. absurd (c.in_default.not-Unread (unread_form c.args.form z)),
  λ vs w h.
      expected_other (context_of c.args.c) c.args.form
      c.in_default.not-Element
      c.in_default.not-WeightedElement
      w
      (meaning _ vs w h.says),
)
