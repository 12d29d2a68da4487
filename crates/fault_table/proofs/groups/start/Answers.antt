use native.Mathlib.Omega.{arith}
use Prim.Native.Nat.{◌+◌}
use mathlib.Core.Path.{refl, ap, ◌∙◌}
use lib.ListN.{length, get_or}
use Rattle.fault_table.specs.Laws.Words.{part_size, partly_length, start_none, start_done, ids_fit, ids_below, group_room, group_zeros, start_more}
use Rattle.fault_table.proofs.groups.start.Goals as goal

pub loop-at-init : goal.loop-at-init
loop-at-init c = ((λ q. start_none q), refl)

pub overflow_add-from : goal.overflow_add-from
overflow_add-from c = omega arith

pub offset_bounds-list-at : goal.offset_bounds-list-at
offset_bounds-list-at c = omega arith

pub bounds-list-at : goal.bounds-list-at
bounds-list-at c = omega arith

pub overflow_add-end : goal.overflow_add-end
overflow_add-end c = omega (arith, ids_fit _ (c.loop-at.invariant.0 c.requires) c.loop-at-test.true)

pub overflow_add-next : goal.overflow_add-next
overflow_add-next c = omega (arith, c.loop-at.invariant.1, group_room _ (c.loop-at.invariant.0 c.requires) c.loop-at-test.true)

pub offset_bounds-state-a : goal.offset_bounds-state-a
offset_bounds-state-a c = omega (arith, c.loop-at.invariant.1, group_room _ (c.loop-at.invariant.0 c.requires) c.loop-at-test.true)

pub slice_bounds-start_group-count : goal.slice_bounds-start_group-count
slice_bounds-start_group-count c = omega arith

pub slice_bounds-start_group-start : goal.slice_bounds-start_group-start
slice_bounds-start_group-start c = omega arith

pub slice_bounds-start_group-end : goal.slice_bounds-start_group-end
slice_bounds-start_group-end c = group_room _ (c.loop-at.invariant.0 c.requires) c.loop-at-test.true

pub offset_bounds-list-from : goal.offset_bounds-list-from
offset_bounds-list-from c = omega (arith, ids_fit _ (c.loop-at.invariant.0 c.requires) c.loop-at-test.true)

pub slice_bounds-start_group-count-in-loop-at : goal.slice_bounds-start_group-count-in-loop-at
slice_bounds-start_group-count-in-loop-at c = omega arith

pub slice_bounds-start_group-start-in-loop-at : goal.slice_bounds-start_group-start-in-loop-at
slice_bounds-start_group-start-in-loop-at c = omega arith

pub slice_bounds-start_group-end-in-loop-at : goal.slice_bounds-start_group-end-in-loop-at
slice_bounds-start_group-end-in-loop-at c = ids_fit _ (c.loop-at.invariant.0 c.requires) c.loop-at-test.true

pub start_group-requires : goal.start_group-requires
start_group-requires c = (rw (part_size c.loop-at.a 24) (group_zeros _ (c.loop-at.invariant.0 c.requires) c.loop-at-test.true), rw (part_size (c.loop-at.at + 1) (get_or c.args.list.now c.loop-at.at 0)) (ids_below _ (c.loop-at.invariant.0 c.requires) c.loop-at-test.true))

pub loop-at-smaller : goal.loop-at-smaller
loop-at-smaller c = omega arith

pub loop-at-preserved : goal.loop-at-preserved
loop-at-preserved c =
    let i = c.loop-at in
    let t = c.loop-at-test.true in
    let q₀ = c.requires in
    let zero = group_zeros q₀ (i.invariant.0 q₀) t in
    let size = rw (part_size i.a 24) at c.start_group.auto.group ∙ ap length zero in
    let is = rw (part_size (i.at + 1) (get_or c.args.list.now i.at 0)) at c.start_group.ensures in
    rw (part_size i.a 24)
    ((λ q. start_more q (i.invariant.0 q) t c.start_group.new.group size is), partly_length i.state c.start_group.new.group i.a 24 size (group_room q₀ (i.invariant.0 q₀) t) ∙ i.invariant.1)

pub shape_of-state : goal.shape_of-state
shape_of-state c = c.loop-at.invariant.1

pub returns : goal.returns
returns c = λ q. start_done q (c.loop-at.invariant.0 q) c.loop-at-test.false
