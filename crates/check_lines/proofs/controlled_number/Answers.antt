-- `check_lines::controlled_number` meets its contract. Assumes nothing.
use native.Mathlib.Omega.{arith}
use mathlib.Core.Path.{sym, ◌∙◌}
use borrow.Author.Tests.{not-true, not-false}
use Rattle.check_values.specs.Laws.Lowest.{none_bad, fails, passes}
use Rattle.check_lines.specs.Laws.Lines.{tests_controlled, controlled_fits, commute_test, met}
use Rattle.check_lines.proofs.controlled_number.Goals as goal

pub returns-then-not-below : goal.returns-then-not-below
returns-then-not-below c =
    λ vs w h.
    let t = tests_controlled c.args.c h in
    fails 4 _ _ (sym (c.below.ensures _ _ vs t.held (omega arith)) ∙ c.if-not-below.true) ∙ t.own

pub returns-then-not-short : goal.returns-then-not-short
returns-then-not-short c =
    λ vs w h.
    let t = tests_controlled c.args.c h in
    fails 5 _ _ (sym (c.short.ensures.by_index _ _ vs t.held (omega arith)) ∙ c.if-not-short.true)
    ∙ passes 4 _ _ (sym (c.below.ensures _ _ vs t.held (omega arith)) ∙ c.if-not-below.false)
    ∙ t.own

pub list-requires : goal.list-requires
list-requires c = (omega arith, c.short.ensures.all_kept (c.if-not-short.false) 0 (omega arith) (omega arith))

pub list-requires-2 : goal.list-requires-2
list-requires-2 c = (omega arith, c.short.ensures.all_kept (c.if-not-short.false) 3 (omega arith) (omega arith))

pub list-requires-3 : goal.list-requires-3
list-requires-3 c = (omega arith, c.short.ensures.all_kept (c.if-not-short.false) 1 (omega arith) (omega arith))

pub list-requires-4 : goal.list-requires-4
list-requires-4 c = (omega arith, c.short.ensures.all_kept (c.if-not-short.false) 2 (omega arith) (omega arith))

pub returns-then-x_on_z-z_on_x : goal.returns-then-x_on_z-z_on_x
returns-then-x_on_z-z_on_x c =
    λ vs w h.
    let t = tests_controlled c.args.c h in
    let fits = controlled_fits c.args.c h in
    let below = sym (c.below.ensures _ _ vs t.held (omega arith)) ∙ c.if-not-below.false in
    let short = c.if-not-short.false in
    let whole = (c.short.ensures.all_kept short) in
    let one = met t.held (omega arith) whole 0 3 (omega arith) (omega arith) c.list.ensures c.list-2.ensures fits.0.x.rising fits.1.z.rising c.overlap_is_odd-x_on_z.ensures in
    let other = met t.held (omega arith) whole 1 2 (omega arith) (omega arith) c.list-3.ensures c.list-4.ensures fits.0.z.rising fits.1.x.rising c.overlap_is_odd-z_on_x.ensures in
    fails 20 _ _ (commute_test _ vs fits.0 below _ _ one other ∙ not-true _ c.if-x_on_z-z_on_x.true)
    ∙ passes 5 _ _ (sym (c.short.ensures.by_index _ _ vs t.held (omega arith)) ∙ short)
    ∙ passes 4 _ _ below
    ∙ t.own

pub returns : goal.returns
returns c =
    λ vs w h.
    let t = tests_controlled c.args.c h in
    let fits = controlled_fits c.args.c h in
    let below = sym (c.below.ensures _ _ vs t.held (omega arith)) ∙ c.if-not-below.false in
    let short = c.if-not-short.false in
    let whole = (c.short.ensures.all_kept short) in
    let one = met t.held (omega arith) whole 0 3 (omega arith) (omega arith) c.list.ensures c.list-2.ensures fits.0.x.rising fits.1.z.rising c.overlap_is_odd-x_on_z.ensures in
    let other = met t.held (omega arith) whole 1 2 (omega arith) (omega arith) c.list-3.ensures c.list-4.ensures fits.0.z.rising fits.1.x.rising c.overlap_is_odd-z_on_x.ensures in
    none_bad ∙ passes 20 _ _ (commute_test _ vs fits.0 below _ _ one other ∙ not-false _ c.if-x_on_z-z_on_x.false)
    ∙ passes 5 _ _ (sym (c.short.ensures.by_index _ _ vs t.held (omega arith)) ∙ short)
    ∙ passes 4 _ _ below
    ∙ t.own
