-- `check_values::lists::slot_below` meets its contract. Assumes nothing.
use lib.ListN.{length}
use borrow.Author.Tests.{eq-eqb}
use Rattle.text.specs.Template.{list_at_of}
use mathlib.Core.Path.{◌≡◌, sym, ◌∙◌}
use Rattle.check_values.specs.Laws.Slots.{below_none, below_largest}
use Rattle.check_values.proofs.lists.slot_below.Goals as goal

pub returns-then-count-eq0 : goal.returns-then-count-eq0
returns-then-count-eq0 c =
    λ numbers lists vs h g. eq-eqb _ _ c.if-count-eq0.true ∙ sym (below_none _ _ (sym (h.count _ g) ∙ sym c.count.ensures ∙ c.if-count-eq0.true))

pub returns-else-count-eq0 : goal.returns-else-count-eq0
returns-else-count-eq0 c =
    λ numbers lists vs h g.
    let e = c.largest.ensures ∙ h.largest _ g in
    let some-member : length (list_at_of c.args.slot vs) ≡ 0 → ⊥ = λ z. c.if-count-eq0.false (c.count.ensures ∙ h.count _ g ∙ z) in
    rw e (below_largest _ _ some-member)
