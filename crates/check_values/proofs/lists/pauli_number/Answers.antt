-- `check_values::lists::pauli_number` meets its contract. Assumes nothing.
use mathlib.Core.Path.{sym, ◌∙◌}
use Rattle.check_values.specs.Laws.Lowest.{none_bad, fails, passes}
use Rattle.check_values.proofs.lists.pauli_number.Goals as goal

pub returns-then-not-below : goal.returns-then-not-below
returns-then-not-below c = λ numbers lists vs h g. fails 4 _ _ (sym (c.below.ensures numbers lists vs h g) ∙ c.if-not-below.true)

pub returns-then-not-short : goal.returns-then-not-short
returns-then-not-short c =
    λ numbers lists vs h g.
    fails 5 _ _ (sym (c.short.ensures.by_index numbers lists vs h g) ∙ c.if-not-short.true)
    ∙ passes 4 _ _ (sym (c.below.ensures numbers lists vs h g) ∙ c.if-not-below.false)

pub returns : goal.returns
returns c =
    λ numbers lists vs h g.
    none_bad ∙ passes 5 _ _ (sym (c.short.ensures.by_index numbers lists vs h g) ∙ c.if-not-short.false)
    ∙ passes 4 _ _ (sym (c.below.ensures numbers lists vs h g) ∙ c.if-not-below.false)
