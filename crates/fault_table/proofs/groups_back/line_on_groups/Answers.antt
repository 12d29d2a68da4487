use native.Mathlib.Omega.{arith}
use Prim.Native.Nat.{◌+◌, ◌*◌, ◌-◌, ◌≤◌}
use mathlib.Core.Path.{sym, ◌∙◌}
use lib.ListN.{length}
use Rattle.fault_table.specs.Laws.Words.{part_size, part_long}
use Rattle.fault_table.specs.Laws.Back.{groups_still, back_none, back_all, back_more}
use Rattle.fault_table.proofs.groups_back.line_on_groups.Goals as goal

pub is_still-requires : goal.is_still-requires
is_still-requires c = tt

pub returns-then-is_still : goal.returns-then-is_still
returns-then-is_still c = groups_still (c.is_still.ensures c.if-is_still.true)

pub loop-i-init : goal.loop-i-init
loop-i-init c = back_none c.requires.1

pub overflow_mul-a : goal.overflow_mul-a
overflow_mul-a c = omega (arith, c.loop-i.invariant.within, c.requires.1, c.loop-i-test.true)

pub overflow_add-end : goal.overflow_add-end
overflow_add-end c = omega (arith, c.loop-i.invariant.within, c.requires.1, c.loop-i-test.true)

pub offset_bounds-state-a : goal.offset_bounds-state-a
offset_bounds-state-a c = omega (arith, c.loop-i.invariant.within, c.requires.1, c.loop-i-test.true)

pub slice_bounds-group_back-count : goal.slice_bounds-group_back-count
slice_bounds-group_back-count c = omega arith

pub slice_bounds-group_back-start : goal.slice_bounds-group_back-start
slice_bounds-group_back-start c = omega arith

pub slice_bounds-group_back-end : goal.slice_bounds-group_back-end
slice_bounds-group_back-end c = omega (arith, c.loop-i.invariant.within, c.loop-i.invariant.long, c.loop-i-test.true)

pub group_back-requires : goal.group_back-requires
group_back-requires c = (c.requires.0, part_long c.loop-i.state ((c.loop-i.i - 1) * 24) 24 (omega (arith, c.loop-i.invariant.within, c.loop-i.invariant.long, c.loop-i-test.true)))

pub loop-i-preserved : goal.loop-i-preserved
loop-i-preserved c =
    let i = c.loop-i in
    let a = (i.i - 1) * 24 in
    let room : a + 24 ≤ length i.state = omega (arith, i.invariant.within, i.invariant.long, c.loop-i-test.true) in
    let part = c.group_back.new.group in
    let size = c.group_back.auto.group ∙ part_long i.state a 24 room in
    rw (part_size a 24) (back_more part i.invariant c.loop-i-test.true c.requires.1 size (rw (part_size a 24) at c.group_back.ensures))

pub shape_of-state : goal.shape_of-state
shape_of-state c = c.loop-i.invariant.long ∙ sym c.requires.1

pub returns : goal.returns
returns c = back_all c.loop-i.invariant (omega (arith, c.loop-i-test.false))
