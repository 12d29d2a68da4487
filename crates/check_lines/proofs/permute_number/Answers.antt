-- `check_lines::permute_number` meets its contract. Assumes nothing.
use native.Mathlib.Omega.{arith}
use mathlib.Core.Path.{sym, ◌∙◌}
use Rattle.text.specs.Template.{list_at_of}
use Rattle.job.specs.Checks.{distinct}
use Rattle.check_values.specs.Laws.Lowest.{none_bad, fails, passes, left_false, right_false, both_true, one_below}
use Rattle.check_lines.specs.Laws.Lines.{tests_permute, other_length, not_below, by_distinct}
use Rattle.check_lines.proofs.permute_number.Goals as goal

pub returns-then-not-below : goal.returns-then-not-below
returns-then-not-below c =
    λ vs w h.
    let t = tests_permute c.args.c h in
    fails 4 _ _ (sym (c.below.ensures _ _ vs t.held (omega arith)) ∙ c.if-not-below.true) ∙ t.own

pub returns-then-not-short : goal.returns-then-not-short
returns-then-not-short c =
    λ vs w h.
    let t = tests_permute c.args.c h in
    fails 5 _ _ (right_false (distinct (list_at_of 1 vs)) _ (sym (c.short.ensures.by_index _ _ vs t.held (omega arith)) ∙ c.if-not-short.true)) ∙ passes 4 _ _ (sym (c.below.ensures _ _ vs t.held (omega arith)) ∙ c.if-not-below.false) ∙ t.own

pub slot_distinct-requires : goal.slot_distinct-requires
slot_distinct-requires c = (omega arith, c.short.ensures.all_kept (c.if-not-short.false) 1 (omega arith) (omega arith))

pub returns-then-not-slot_distinct : goal.returns-then-not-slot_distinct
returns-then-not-slot_distinct c =
    λ vs w h.
    let t = tests_permute c.args.c h in
    let once = c.slot_distinct.ensures _ _ vs t.held (omega arith) in
    fails 5 _ _ (left_false _ _ (sym once ∙ c.if-not-slot_distinct.true)) ∙ passes 4 _ _ (sym (c.below.ensures _ _ vs t.held (omega arith)) ∙ c.if-not-below.false) ∙ t.own

pub returns-then-count-k : goal.returns-then-count-k
returns-then-count-k c =
    λ vs w h.
    let t = tests_permute c.args.c h in
    let places = c.count.ensures ∙ t.held.count 0 (omega arith) in
    let size = c.count-k.ensures ∙ t.held.count 1 (omega arith) in
    let once = c.slot_distinct.ensures _ _ vs t.held (omega arith) in
    fails 6 _ _ (other_length _ _ (λ z. c.if-count-k.true (places ∙ z ∙ sym size)))
    ∙ passes 5 _ _ (both_true (sym once ∙ c.if-not-slot_distinct.false) (sym (c.short.ensures.by_index _ _ vs t.held (omega arith)) ∙ c.if-not-short.false))
    ∙ passes 4 _ _ (sym (c.below.ensures _ _ vs t.held (omega arith)) ∙ c.if-not-below.false)
    ∙ t.own

pub returns-then-not-below-2 : goal.returns-then-not-below-2
returns-then-not-below-2 c =
    λ vs w h.
    let t = tests_permute c.args.c h in
    let places = c.count.ensures ∙ t.held.count 0 (omega arith) in
    let size = c.count-k.ensures ∙ t.held.count 1 (omega arith) in
    let once = c.slot_distinct.ensures _ _ vs t.held (omega arith) in
    let same = sym places ∙ c.if-count-k.false ∙ size in
    let inside = c.below-2.ensures _ _ vs t.held (omega arith) ∙ one_below vs 0 _ in
    fails 6 _ _ (not_below _ _ same (rw size at (sym inside ∙ c.if-not-below-2.true)))
    ∙ passes 5 _ _ (both_true (sym once ∙ c.if-not-slot_distinct.false) (sym (c.short.ensures.by_index _ _ vs t.held (omega arith)) ∙ c.if-not-short.false))
    ∙ passes 4 _ _ (sym (c.below.ensures _ _ vs t.held (omega arith)) ∙ c.if-not-below.false)
    ∙ t.own

pub slot_distinct-requires-2 : goal.slot_distinct-requires-2
slot_distinct-requires-2 c = (omega arith, c.short.ensures.all_kept (c.if-not-short.false) 0 (omega arith) (omega arith))

pub returns-then-not-slot_distinct-2 : goal.returns-then-not-slot_distinct-2
returns-then-not-slot_distinct-2 c =
    λ vs w h.
    let t = tests_permute c.args.c h in
    let places = c.count.ensures ∙ t.held.count 0 (omega arith) in
    let size = c.count-k.ensures ∙ t.held.count 1 (omega arith) in
    let once = c.slot_distinct.ensures _ _ vs t.held (omega arith) in
    let same = sym places ∙ c.if-count-k.false ∙ size in
    let inside = c.below-2.ensures _ _ vs t.held (omega arith) ∙ one_below vs 0 _ in
    let apart = c.slot_distinct-2.ensures _ _ vs t.held (omega arith) in
    fails 6 _ _ (sym (by_distinct _ _ same (rw size at (sym inside ∙ c.if-not-below-2.false))) ∙ sym apart ∙ c.if-not-slot_distinct-2.true)
    ∙ passes 5 _ _ (both_true (sym once ∙ c.if-not-slot_distinct.false) (sym (c.short.ensures.by_index _ _ vs t.held (omega arith)) ∙ c.if-not-short.false))
    ∙ passes 4 _ _ (sym (c.below.ensures _ _ vs t.held (omega arith)) ∙ c.if-not-below.false)
    ∙ t.own

pub returns : goal.returns
returns c =
    λ vs w h.
    let t = tests_permute c.args.c h in
    let places = c.count.ensures ∙ t.held.count 0 (omega arith) in
    let size = c.count-k.ensures ∙ t.held.count 1 (omega arith) in
    let once = c.slot_distinct.ensures _ _ vs t.held (omega arith) in
    let same = sym places ∙ c.if-count-k.false ∙ size in
    let inside = c.below-2.ensures _ _ vs t.held (omega arith) ∙ one_below vs 0 _ in
    let apart = c.slot_distinct-2.ensures _ _ vs t.held (omega arith) in
    none_bad
    ∙ passes 6 _ _ (sym (by_distinct _ _ same (rw size at (sym inside ∙ c.if-not-below-2.false))) ∙ sym apart ∙ c.if-not-slot_distinct-2.false)
    ∙ passes 5 _ _ (both_true (sym once ∙ c.if-not-slot_distinct.false) (sym (c.short.ensures.by_index _ _ vs t.held (omega arith)) ∙ c.if-not-short.false))
    ∙ passes 4 _ _ (sym (c.below.ensures _ _ vs t.held (omega arith)) ∙ c.if-not-below.false)
    ∙ t.own
