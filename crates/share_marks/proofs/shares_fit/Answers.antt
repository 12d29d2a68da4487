-- `share_marks::shares_fit` meets its contract. Assumes nothing.
use mathlib.Core.Path.{sym, ◌∙◌}
use borrow.Author.Tests.{not-true, not-false}
use Rattle.share_marks.proofs.Laws.Sums.{sum_over, sum_all}
use Rattle.share_marks.proofs.Laws.Number.{no_callers, many_callers, list_short, stretch_short, by_common}
use Rattle.share_marks.proofs.shares_fit.Goals as goal

pub returns-then-callers-lt1 : goal.returns-then-callers-lt1
returns-then-callers-lt1 c = λ caller. no_callers _ _ _ caller c.if-callers-lt1.true

pub returns-then-callers-gt-MAX_CALLERS : goal.returns-then-callers-gt-MAX_CALLERS
returns-then-callers-gt-MAX_CALLERS c = λ caller. many_callers _ _ _ caller c.if-callers-lt1.false c.if-callers-gt-MAX_CALLERS.true

pub returns-then-main-total : goal.returns-then-main-total
returns-then-main-total c =
    λ caller. list_short _ _ _ caller c.if-callers-lt1.false c.if-callers-gt-MAX_CALLERS.false (sum_over _ _ c.sum_up_to-total.ensures c.if-main-total.true)

pub returns-then-each_within : goal.returns-then-each_within
returns-then-each_within c =
    λ caller. by_common _ _ _ caller c.if-callers-lt1.false c.if-callers-gt-MAX_CALLERS.false (sum_all _ _ c.sum_up_to-total.ensures c.if-main-total.false) c.if-main-total.false
    (sym c.each_within.ensures ∙ c.if-each_within.true)

pub returns-else-each_within : goal.returns-else-each_within
returns-else-each_within c =
    λ caller. c.if-each_within.false
    ∙ stretch_short _ _ _ caller c.if-callers-lt1.false c.if-callers-gt-MAX_CALLERS.false (sum_all _ _ c.sum_up_to-total.ensures c.if-main-total.false) c.if-main-total.false
    (sym c.each_within.ensures ∙ c.if-each_within.false)
