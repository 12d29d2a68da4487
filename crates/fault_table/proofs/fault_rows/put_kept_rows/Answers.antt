use native.Mathlib.Omega.{arith}
use Prim.Native.Nat.{ℕ, ◌+◌, ◌-◌, ◌*◌, ◌≤◌}
use lib.ListN.{length}
use Rattle.fault_table.specs.Laws.Words.{part_size, part_long}
use Rattle.fault_table.specs.Laws.Putting.{rows_none, begins_within, row_room, rows_more, rows_all}
use Rattle.fault_table.proofs.fault_rows.put_kept_rows.Goals as goal

pub loop-e-init : goal.loop-e-init
loop-e-init c = rows_none

pub overflow_mul-a : goal.overflow_mul-a
overflow_mul-a c = omega (arith, c.loop-e.invariant.within, c.requires.1)

pub overflow_add-end : goal.overflow_add-end
overflow_add-end c = omega (arith, c.loop-e.invariant.within, c.requires.0, c.requires.1)

pub slice_bounds-put_row-count : goal.slice_bounds-put_row-count
slice_bounds-put_row-count c = omega arith

pub slice_bounds-put_row-start : goal.slice_bounds-put_row-start
slice_bounds-put_row-start c = omega arith

pub slice_bounds-put_row-end : goal.slice_bounds-put_row-end
slice_bounds-put_row-end c = omega (arith, c.loop-e-test.true, c.loop-e.invariant.within, c.requires.0, c.requires.1, c.requires.2)

pub put_row-begin-requires : goal.put_row-begin-requires
put_row-begin-requires c =
    let i = c.loop-e in
    let p = c.requires in
    let t = c.loop-e-test.true in
    let groups = c.args.groups in
    let kept = c.args.kept.now in
    let a : ℕ = (64 - c.args.n + (i.e - 1)) * 16 in
    let room : a + groups ≤ length kept = omega (arith, t, i.invariant.within, p.0, p.1, p.2) in
    let long = part_long kept a groups room in
    let left = row_room i.invariant t p.4 in
    (omega (arith, long, p.0), omega (arith, i.invariant.long, begins_within i.invariant, p.3), rw long left)

pub loop-e-preserved : goal.loop-e-preserved
loop-e-preserved c =
    let i = c.loop-e in
    let p = c.requires in
    let t = c.loop-e-test.true in
    let groups = c.args.groups in
    let kept = c.args.kept.now in
    let a : ℕ = (64 - c.args.n + (i.e - 1)) * 16 in
    let room : a + groups ≤ length kept = omega (arith, t, i.invariant.within, p.0, p.1, p.2) in
    let long = part_long kept a groups room in
    let size = rw (part_size a groups) at long in
    let put = rw (part_size a groups) at c.put_row-begin.ensures in
    rows_more i.invariant t size c.put_row-begin.auto.out put

pub shape_of-out : goal.shape_of-out
shape_of-out c = c.loop-e.invariant.long

pub returns : goal.returns
returns c = rows_all c.loop-e.invariant (omega (arith, c.loop-e-test.false))
