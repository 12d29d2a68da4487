-- `check_lines::elements::total_after` meets its contract. Assumes nothing.
use mathlib.Core.Bool.{true≢false}
use lib.Ieee.{binary64, add}
use Rattle.check_values.specs.Contexts.{context_of}
use mathlib.Core.Path.{sym, ap, ◌∙◌}
use Rattle.check_values.specs.Laws.Floats.{only_refused, only_accepted}
use Rattle.check_lines.specs.Laws.Elements.{total_begins, total_next, weight_held, weight_passed, passed_expected}
use Rattle.instructions.specs.Laws.Meaning.{meaning}
use Rattle.check_lines.proofs.elements.total_after.Goals as goal

pub returns-in_default : goal.returns-in_default
returns-in_default c =
    λ last vs w h p t q.
    total_begins (context_of c.args.c) c.args.form
    c.in_default.not-WeightedElement
    w
    (meaning _ vs w h.says)
    (passed_expected (context_of c.args.c) last w p)
    t
    q

pub returns-in-Some : goal.returns-in-Some
returns-in-Some c =
    λ last vs w h p t q.
    let s = rw c.in-WeightedElement.is at h in
    let bits = c.number.ensures ∙ weight_held c.args.c s in
    let right = rw bits at (only_accepted _ _ (sym c.in-Some.is ∙ c.weight.ensures)).1 in
    ap (add binary64 c.args.c.total) (sym right) ∙ total_next c.args.c s (passed_expected (context_of c.args.c) last w p) t q

pub returns-in-None : goal.returns-in-None
returns-in-None c =
    λ last vs w h p t q.
    let s = rw c.in-WeightedElement.is at h in
    let bits = c.number.ensures ∙ weight_held c.args.c s in
    let wrong = rw bits at (only_refused _ _ (sym c.in-None.is ∙ c.weight.ensures)) in
    absurd (true≢false (sym (weight_passed c.args.c s last p) ∙ wrong))
