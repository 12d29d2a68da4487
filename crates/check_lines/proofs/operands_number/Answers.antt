-- `check_lines::operands_number` meets its contract. Assumes nothing.
use native.Mathlib.Omega.{arith}
use mathlib.Core.Path.{sym, ◌∙◌}
use Rattle.text.specs.Template.{list_at_of}
use Rattle.job.specs.Checks.{distinct}
use Rattle.check_values.specs.Laws.Lowest.{none_bad, fails, passes, left_false, right_false, both_true}
use Rattle.check_lines.proofs.operands_number.Goals as goal

pub returns-then-not-below : goal.returns-then-not-below
returns-then-not-below c = λ numbers lists vs h g. fails 4 _ _ (sym (c.below.ensures numbers lists vs h g) ∙ c.if-not-below.true)

pub returns-then-not-short : goal.returns-then-not-short
returns-then-not-short c =
    λ numbers lists vs h g.
    fails 5 _ _ (right_false (distinct (list_at_of 0 vs)) _ (sym (c.short.ensures.by_index numbers lists vs h g) ∙ c.if-not-short.true))
    ∙ passes 4 _ _ (sym (c.below.ensures numbers lists vs h g) ∙ c.if-not-below.false)

pub slot_distinct-requires : goal.slot_distinct-requires
slot_distinct-requires c = (omega arith, c.short.ensures.all_kept (c.if-not-short.false) 0 (omega arith) (omega arith))

pub returns-then-not-slot_distinct : goal.returns-then-not-slot_distinct
returns-then-not-slot_distinct c =
    λ numbers lists vs h g.
    fails 5 _ _ (left_false _ _ (sym (c.slot_distinct.ensures numbers lists vs h g) ∙ c.if-not-slot_distinct.true))
    ∙ passes 4 _ _ (sym (c.below.ensures numbers lists vs h g) ∙ c.if-not-below.false)

pub returns : goal.returns
returns c =
    λ numbers lists vs h g.
    none_bad
    ∙ passes 5 _ _ (both_true (sym (c.slot_distinct.ensures numbers lists vs h g) ∙ c.if-not-slot_distinct.false) (sym (c.short.ensures.by_index numbers lists vs h g) ∙ c.if-not-short.false))
    ∙ passes 4 _ _ (sym (c.below.ensures numbers lists vs h g) ∙ c.if-not-below.false)
