-- `check_lines::unitary_number` meets its contract. Assumes nothing.
use native.Mathlib.Omega.{arith}
use mathlib.Core.Path.{sym, ap, ◌∙◌}
use mathlib.Core.Option.{some}
use borrow.Author.Tests.{eq-eqb, ne_eqb}
use lib.Dec.{eqb}
use lib.ListN.{length}
use Rattle.text.specs.Template.{list_at_of}
use Rattle.pauli.specs.Gate.{gate_of, operands_of}
use Rattle.pauli.specs.Code.{operand_count_of}
use Rattle.check_values.specs.Laws.Lowest.{none_bad, fails, passes, left_false, right_false, both_true, one_short}
use Rattle.check_lines.specs.Laws.Lines.{tests_unitary, few_counted}
use Rattle.check_lines.proofs.unitary_number.Goals as goal

pub returns-then-not-below : goal.returns-then-not-below
returns-then-not-below c =
    λ vs w h.
    let (g, e, t) = tests_unitary c.args.c h in
    fails 4 _ _ (sym (c.below.ensures _ _ vs t.held (omega arith)) ∙ c.if-not-below.true) ∙ t.own

pub returns-then-count-operand_count : goal.returns-then-count-operand_count
unfolding operand_count_of
returns-then-count-operand_count c =
    λ vs w h.
    let (g, e, t) = tests_unitary c.args.c h in
    let size = c.count.ensures ∙ t.held.count 0 (omega arith) in
    let code = ap gate_of (c.number.ensures ∙ t.held.number 0 (omega arith)) in
    fails 5 _ _ (left_false _ _ (left_false _ _ (ne_eqb _ _ (λ z. c.if-count-operand_count.true (size ∙ z ∙ sym (c.operand_count.ensures ∙ ap operand_count_of (code ∙ e)))))))
    ∙ passes 4 _ _ (sym (c.below.ensures _ _ vs t.held (omega arith)) ∙ c.if-not-below.false)
    ∙ t.own

pub slot_distinct-requires : goal.slot_distinct-requires
slot_distinct-requires c = (omega arith, omega (arith, few_counted _ c.operand_count.ensures))

pub returns-then-not-slot_distinct : goal.returns-then-not-slot_distinct
returns-then-not-slot_distinct c =
    λ vs w h.
    let (g, e, t) = tests_unitary c.args.c h in
    let once = c.slot_distinct.ensures _ _ vs t.held (omega arith) in
    fails 5 _ _ (left_false _ _ (right_false (eqb (length (list_at_of 0 vs)) (operands_of g)) _ (sym once ∙ c.if-not-slot_distinct.true)))
    ∙ passes 4 _ _ (sym (c.below.ensures _ _ vs t.held (omega arith)) ∙ c.if-not-below.false)
    ∙ t.own

pub returns : goal.returns
unfolding operand_count_of
returns c =
    λ vs w h.
    let (g, e, t) = tests_unitary c.args.c h in
    let size = c.count.ensures ∙ t.held.count 0 (omega arith) in
    let code = ap gate_of (c.number.ensures ∙ t.held.number 0 (omega arith)) in
    let operands = c.operand_count.ensures ∙ ap operand_count_of (code ∙ e) in
    let once = c.slot_distinct.ensures _ _ vs t.held (omega arith) in
    none_bad ∙ passes 5 _ _
    (both_true
    (both_true (eq-eqb _ _ (sym size ∙ c.if-count-operand_count.false ∙ operands)) (sym once ∙ c.if-not-slot_distinct.false))
    (one_short vs 0 (omega (arith, few_counted (some g) operands))))
    ∙ passes 4 _ _ (sym (c.below.ensures _ _ vs t.held (omega arith)) ∙ c.if-not-below.false)
    ∙ t.own
