use native.Mathlib.Omega.{arith}
use Prim.Native.Nat.{◌+◌}
use mathlib.Core.Path.{refl, sym, ap, ◌∙◌}
use lib.ListN.{get_or}
use Rattle.fault_table.specs.Lent.{grouping_of}
use Rattle.fault_table.specs.Laws.Listed.{no_groups, groups_cut, groups_here, refused_by, one_more, unrisen, unrecorded, cut_refused}
use Rattle.fault_table.specs.Laws.Words.{part_size}
use Rattle.fault_table.proofs.groups.grouping.Goals as goal

pub loop-at-init : goal.loop-at-init
loop-at-init c = (omega arith, omega arith, refl)

pub offset_bounds-list-at : goal.offset_bounds-list-at
offset_bounds-list-at c = omega arith

pub bounds-list-at : goal.bounds-list-at
bounds-list-at c = omega arith

pub overflow_add-from : goal.overflow_add-from
overflow_add-from c = omega arith

pub overflow_sub-left : goal.overflow_sub-left
overflow_sub-left c = omega arith

pub returns-then-left-count : goal.returns-then-left-count
returns-then-left-count c = sym (c.loop-at.invariant.2 ∙ ap (grouping_of _ _) (groups_cut _ _ c.loop-at-test.true (omega (arith, c.if-left-count.true))) ∙ cut_refused _ _)

pub overflow_add-end : goal.overflow_add-end
overflow_add-end c = omega arith

pub offset_bounds-list-from : goal.offset_bounds-list-from
offset_bounds-list-from c = omega arith

pub slice_bounds-ids-count : goal.slice_bounds-ids-count
slice_bounds-ids-count c = omega arith

pub slice_bounds-ids-start : goal.slice_bounds-ids-start
slice_bounds-ids-start c = omega arith

pub slice_bounds-ids-end : goal.slice_bounds-ids-end
slice_bounds-ids-end c = omega arith

pub is_rising-requires : goal.is_rising-requires
is_rising-requires c = tt

pub returns-then-not-is_rising : goal.returns-then-not-is_rising
returns-then-not-is_rising c = sym (c.loop-at.invariant.2 ∙ ap (grouping_of _ _) (groups_here _ _ c.loop-at-test.true (omega (arith, c.if-left-count.false))) ∙ refused_by _ _ _ _ (unrisen _ _ (sym (rw (part_size (c.loop-at.at + 1) (get_or c.args.list.now c.loop-at.at 0)) at c.is_rising.ensures) ∙ c.if-not-is_rising.true)))

pub all_below-requires : goal.all_below-requires
all_below-requires c = tt

pub returns-then-not-all_below : goal.returns-then-not-all_below
returns-then-not-all_below c = sym (c.loop-at.invariant.2 ∙ ap (grouping_of _ _) (groups_here _ _ c.loop-at-test.true (omega (arith, c.if-left-count.false))) ∙ refused_by _ _ _ _ (unrecorded _ _ (sym (rw (part_size (c.loop-at.at + 1) (get_or c.args.list.now c.loop-at.at 0)) at c.all_below.ensures) ∙ c.if-not-all_below.true)))

pub overflow_add-n : goal.overflow_add-n
overflow_add-n c = omega arith

pub loop-at-smaller : goal.loop-at-smaller
loop-at-smaller c = omega arith

pub loop-at-preserved : goal.loop-at-preserved
loop-at-preserved c = (omega arith, omega (arith, c.if-left-count.false), c.loop-at.invariant.2 ∙ ap (grouping_of _ _) (groups_here _ _ c.loop-at-test.true (omega (arith, c.if-left-count.false))) ∙ one_more _ _ _ _ (sym (rw (part_size (c.loop-at.at + 1) (get_or c.args.list.now c.loop-at.at 0)) at c.is_rising.ensures) ∙ c.if-not-is_rising.false) (sym (rw (part_size (c.loop-at.at + 1) (get_or c.args.list.now c.loop-at.at 0)) at c.all_below.ensures) ∙ c.if-not-all_below.false))

pub returns : goal.returns
returns c = sym (c.loop-at.invariant.2 ∙ no_groups _ _ _ _ c.loop-at-test.false)
