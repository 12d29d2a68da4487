-- `check_lines::noise_lines::listed_number` meets its contract. Assumes nothing.
use native.Mathlib.Omega.{arith}
use mathlib.Core.Path.{sym, ◌∙◌}
use borrow.Author.Tests.{lt-leb, le-leb}
use lib.Dec.{leb}
use Rattle.text.specs.Template.{number_at}
use Rattle.check_lines.specs.Listed.{listed_tests}
use Rattle.std.proofs.lemmas.Result.{err_from_is_err_and}
use Rattle.check_values.specs.Laws.Lowest.{fails, passes, two_fail, two_pass, left_false, right_false, both_true}
use Rattle.check_lines.proofs.noise_lines.listed_number.Goals as goal

pub returns-then-not-short : goal.returns-then-not-short
unfolding listed_tests
returns-then-not-short c = λ vs h. fails 5 _ _ (sym (c.short.ensures.by_index _ _ vs h (omega arith)) ∙ c.if-not-short.true)

pub returns-in_err-noise_number : goal.returns-in_err-noise_number
unfolding listed_tests
returns-in_err-noise_number c = λ vs h.
    let p = err_from_is_err_and c.from_residual.result c.from_residual.ensures.1 in rw (p.1, p.2) (two_fail _ _ _ (c.noise_number.ensures _ _ vs h (omega arith) (omega arith)) c.in_err-noise_number.was
    ∙ passes 5 _ _ (sym (c.short.ensures.by_index _ _ vs h (omega arith)) ∙ c.if-not-short.false))

pub returns-then-element_count-eq0 : goal.returns-then-element_count-eq0
unfolding listed_tests
returns-then-element_count-eq0 c = λ vs h.
    let n = c.number-element_count.ensures ∙ h.number 2 (omega arith) in
    fails 12 _ _ (left_false _ _ (lt-leb 1 (number_at 2 vs) (omega arith)))
    ∙ two_pass _ _ _ (c.noise_number.ensures _ _ vs h (omega arith) (omega arith)) (omega arith) (omega arith) c.in_ok-noise_number.was
    ∙ passes 5 _ _ (sym (c.short.ensures.by_index _ _ vs h (omega arith)) ∙ c.if-not-short.false)

pub returns-then-element_count-gt-MAX_ELEMENTS : goal.returns-then-element_count-gt-MAX_ELEMENTS
unfolding listed_tests
returns-then-element_count-gt-MAX_ELEMENTS c = λ vs h.
    let n = c.number-element_count.ensures ∙ h.number 2 (omega arith) in
    fails 12 _ _ (right_false (leb 1 (number_at 2 vs)) _ (lt-leb (number_at 2 vs) 64 (omega arith)))
    ∙ two_pass _ _ _ (c.noise_number.ensures _ _ vs h (omega arith) (omega arith)) (omega arith) (omega arith) c.in_ok-noise_number.was
    ∙ passes 5 _ _ (sym (c.short.ensures.by_index _ _ vs h (omega arith)) ∙ c.if-not-short.false)

pub returns : goal.returns
unfolding listed_tests
returns c = λ vs h.
    let n = c.number-element_count.ensures ∙ h.number 2 (omega arith) in
    rw n at (c.size_number.ensures _ _ vs h (omega arith))
    ∙ passes 12 _ _ (both_true (le-leb 1 (number_at 2 vs) (omega arith)) (le-leb (number_at 2 vs) 64 (omega arith)))
    ∙ two_pass _ _ _ (c.noise_number.ensures _ _ vs h (omega arith) (omega arith)) (omega arith) (omega arith) c.in_ok-noise_number.was
    ∙ passes 5 _ _ (sym (c.short.ensures.by_index _ _ vs h (omega arith)) ∙ c.if-not-short.false)
