-- `check_lines::elements::weighted_element_number` meets its contract. Assumes nothing.
use native.Mathlib.Omega.{arith}
use mathlib.Core.Path.{sym, ap, ◌∙◌}
use borrow.Author.Tests.{ne_eqb}
use lib.Ieee.{Float, binary64, add}
use Rattle.job.specs.Float.{float, is_weight_of, is_total}
use Rattle.text.specs.Template.{number_at}
use Rattle.check_values.specs.Laws.Floats.{only_refused, only_accepted}
use Rattle.std.proofs.lemmas.Result.{err_from_is_err_and}
use Rattle.check_values.specs.Laws.Lowest.{none_bad, fails, passes, two_fail, two_pass, left_false, right_false, both_true}
use Rattle.check_lines.specs.Laws.Noise.{tests_weighted_element, last_total}
use Rattle.check_lines.proofs.elements.weighted_element_number.Goals as goal

pub returns-in_err-pauli_number : goal.returns-in_err-pauli_number
returns-in_err-pauli_number c =
    λ vs w h x.
    let t = tests_weighted_element c.args.c h x in
    let p = err_from_is_err_and c.from_residual.result c.from_residual.ensures.1 in
    rw (p.1, p.2) (two_fail _ _ _ (c.pauli_number.ensures _ _ vs t.held (omega arith)) c.in_err-pauli_number.was ∙ t.own)

pub returns-in_default : goal.returns-in_default
returns-in_default c =
    λ vs w h x.
    let t = tests_weighted_element c.args.c h x in
    let bits = c.number.ensures ∙ t.held.number 0 (omega arith) in
    let right = only_refused _ _ (sym c.in_default.is ∙ c.weight.ensures) in
    fails 12 _ _ (left_false _ _ (rw bits at right))
    ∙ two_pass _ _ _ (c.pauli_number.ensures _ _ vs t.held (omega arith)) (omega arith) (omega arith) c.in_ok-pauli_number.was
    ∙ t.own

pub returns-then-c-ne1 : goal.returns-then-c-ne1
returns-then-c-ne1 c =
    λ vs w h x.
    let t = tests_weighted_element c.args.c h x in
    let bits = c.number.ensures ∙ t.held.number 0 (omega arith) in
    let right = (only_accepted _ _ (sym c.in-Some.is ∙ c.weight.ensures)).0 in
    none_bad
    ∙ passes 12 _ _ (both_true (rw bits at right) (rw (ne_eqb c.args.c.due 1 c.if-c-ne1.true)))
    ∙ two_pass _ _ _ (c.pauli_number.ensures _ _ vs t.held (omega arith)) (omega arith) (omega arith) c.in_ok-pauli_number.was
    ∙ t.own

pub returns-then-not-is_total : goal.returns-then-not-is_total
returns-then-not-is_total c =
    λ vs w h x.
    let t = tests_weighted_element c.args.c h x in
    let bits = c.number.ensures ∙ t.held.number 0 (omega arith) in
    let right = rw bits at (only_accepted _ _ (sym c.in-Some.is ∙ c.weight.ensures)).1 in
    let sum = ap (λ (y : Float). is_total (add binary64 c.args.c.total y)) right ∙ sym c.is_total.ensures in
    fails 12 _ _ (right_false (is_weight_of (float (number_at 0 vs))) _ (last_total _ c.if-c-ne1.false (sum ∙ c.if-not-is_total.true)))
    ∙ two_pass _ _ _ (c.pauli_number.ensures _ _ vs t.held (omega arith)) (omega arith) (omega arith) c.in_ok-pauli_number.was
    ∙ t.own

pub returns : goal.returns
returns c =
    λ vs w h x.
    let t = tests_weighted_element c.args.c h x in
    let bits = c.number.ensures ∙ t.held.number 0 (omega arith) in
    let passed = only_accepted _ _ (sym c.in-Some.is ∙ c.weight.ensures) in
    let right = rw bits at passed.1 in
    let sum = ap (λ (y : Float). is_total (add binary64 c.args.c.total y)) right ∙ sym c.is_total.ensures in
    none_bad
    ∙ passes 12 _ _ (both_true (rw bits at passed.0) (last_total _ c.if-c-ne1.false (sum ∙ c.if-not-is_total.false)))
    ∙ two_pass _ _ _ (c.pauli_number.ensures _ _ vs t.held (omega arith)) (omega arith) (omega arith) c.in_ok-pauli_number.was
    ∙ t.own
