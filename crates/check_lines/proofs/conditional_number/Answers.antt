-- `check_lines::conditional_number` meets its contract. Assumes nothing.
use native.Mathlib.Omega.{arith}
use mathlib.Core.Path.{sym, ◌∙◌}
use Rattle.check_values.specs.Laws.Lowest.{none_bad, fails, passes, one_below}
use Rattle.check_lines.specs.Laws.Lines.{tests_conditional}
use Rattle.check_lines.proofs.conditional_number.Goals as goal

pub returns-then-not-below : goal.returns-then-not-below
returns-then-not-below c =
    λ vs w h.
    let t = tests_conditional c.args.c h in
    fails 4 _ _ (sym (c.below.ensures _ _ vs t.held (omega arith)) ∙ c.if-not-below.true) ∙ t.own

pub returns-then-not-short : goal.returns-then-not-short
returns-then-not-short c =
    λ vs w h.
    let t = tests_conditional c.args.c h in
    fails 5 _ _ (sym (c.short.ensures.by_index _ _ vs t.held (omega arith)) ∙ c.if-not-short.true) ∙ passes 4 _ _ (sym (c.below.ensures _ _ vs t.held (omega arith)) ∙ c.if-not-below.false) ∙ t.own

pub returns-then-not-below-2 : goal.returns-then-not-below-2
returns-then-not-below-2 c =
    λ vs w h.
    let t = tests_conditional c.args.c h in
    let known = c.below-2.ensures _ _ vs t.held (omega arith) ∙ one_below vs 2 _ in
    fails 9 _ _ (sym known ∙ c.if-not-below-2.true) ∙ passes 5 _ _ (sym (c.short.ensures.by_index _ _ vs t.held (omega arith)) ∙ c.if-not-short.false) ∙ passes 4 _ _ (sym (c.below.ensures _ _ vs t.held (omega arith)) ∙ c.if-not-below.false) ∙ t.own

pub returns : goal.returns
returns c =
    λ vs w h.
    let t = tests_conditional c.args.c h in
    let known = c.below-2.ensures _ _ vs t.held (omega arith) ∙ one_below vs 2 _ in
    none_bad ∙ passes 9 _ _ (sym known ∙ c.if-not-below-2.false) ∙ passes 5 _ _ (sym (c.short.ensures.by_index _ _ vs t.held (omega arith)) ∙ c.if-not-short.false) ∙ passes 4 _ _ (sym (c.below.ensures _ _ vs t.held (omega arith)) ∙ c.if-not-below.false) ∙ t.own
