-- `check_lines::noise_lines::depolarizing_number` meets its contract. Assumes nothing.
use native.Mathlib.Omega.{arith}
use Prim.Native.Nat.{◌-◌, ◌^◌}
use mathlib.Core.Path.{sym, ap, ◌∙◌}
use Rattle.text.specs.Template.{list_at_of}
use Rattle.job.specs.Checks.{distinct}
use Rattle.check_lines.specs.Laws.Noise.{tests_depolarizing}
use Rattle.check_values.specs.Laws.Lowest.{fails, passes, left_false, right_false, both_true}
use Rattle.check_lines.proofs.noise_lines.depolarizing_number.Goals as goal

pub returns-then-not-below : goal.returns-then-not-below
returns-then-not-below c =
    λ vs w h.
    let t = tests_depolarizing c.args.c h in
    fails 4 _ _ (sym (c.below.ensures _ _ vs t.held (omega arith)) ∙ c.if-not-below.true) ∙ t.own

pub returns-then-not-short : goal.returns-then-not-short
returns-then-not-short c =
    λ vs w h.
    let t = tests_depolarizing c.args.c h in
    fails 5 _ _ (right_false (distinct (list_at_of 2 vs)) _ (sym (c.short.ensures.by_index _ _ vs t.held (omega arith)) ∙ c.if-not-short.true)) ∙ passes 4 _ _ (sym (c.below.ensures _ _ vs t.held (omega arith)) ∙ c.if-not-below.false) ∙ t.own

pub slot_distinct-requires : goal.slot_distinct-requires
slot_distinct-requires c = (omega arith, c.short.ensures.all_kept (c.if-not-short.false) 2 (omega arith) (omega arith))

pub returns-then-not-slot_distinct : goal.returns-then-not-slot_distinct
returns-then-not-slot_distinct c =
    λ vs w h.
    let t = tests_depolarizing c.args.c h in
    let once = c.slot_distinct.ensures _ _ vs t.held (omega arith) in
    fails 5 _ _ (left_false _ _ (sym once ∙ c.if-not-slot_distinct.true)) ∙ passes 4 _ _ (sym (c.below.ensures _ _ vs t.held (omega arith)) ∙ c.if-not-below.false) ∙ t.own

pub depolarizing_size-requires : goal.depolarizing_size-requires
depolarizing_size-requires c = omega (arith, c.count.ensures, c.short.ensures.all_kept (c.if-not-short.false) 2 (omega arith) (omega arith))

pub returns : goal.returns
returns c =
    λ vs w h.
    let t = tests_depolarizing c.args.c h in
    let once = c.slot_distinct.ensures _ _ vs t.held (omega arith) in
    let size = c.depolarizing_size.ensures ∙ ap (λ k. 4 ^ k - 1) (c.count.ensures ∙ t.held.count 2 (omega arith)) in
    rw size at (c.unlisted_number.ensures _ vs t.held (omega arith))
    ∙ passes 5 _ _ (both_true (sym once ∙ c.if-not-slot_distinct.false) (sym (c.short.ensures.by_index _ _ vs t.held (omega arith)) ∙ c.if-not-short.false)) ∙ passes 4 _ _ (sym (c.below.ensures _ _ vs t.held (omega arith)) ∙ c.if-not-below.false) ∙ t.own
