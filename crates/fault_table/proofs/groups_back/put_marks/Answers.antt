use native.Mathlib.Omega.{arith}
use Prim.Native.Nat.{◌*◌, ◌-◌}
use mathlib.Core.Path.{refl}
use Rattle.fault_table.specs.Laws.Words.{part_size, part_long}
use Rattle.fault_table.specs.Laws.Back.{marks_none, marks_all, marks_more, digit, digit_fits}
use Rattle.fault_table.proofs.groups_back.put_marks.Goals as goal

pub loop-i-init : goal.loop-i-init
loop-i-init c = marks_none _ refl

pub overflow_mul-a : goal.overflow_mul-a
overflow_mul-a c = omega (arith, c.loop-i.invariant.within, c.requires, c.loop-i-test.true)

pub overflow_add-end : goal.overflow_add-end
overflow_add-end c = omega (arith, c.loop-i.invariant.within, c.requires, c.loop-i-test.true)

pub offset_bounds-state-a : goal.offset_bounds-state-a
offset_bounds-state-a c = omega (arith, c.loop-i.invariant.within, c.requires, c.loop-i-test.true)

pub slice_bounds-observable-count : goal.slice_bounds-observable-count
slice_bounds-observable-count c = omega arith

pub slice_bounds-observable-start : goal.slice_bounds-observable-start
slice_bounds-observable-start c = omega arith

pub slice_bounds-observable-end : goal.slice_bounds-observable-end
slice_bounds-observable-end c = omega (arith, c.loop-i.invariant.within, c.requires, c.loop-i-test.true)

pub observable-requires : goal.observable-requires
observable-requires c = part_long c.args.state.now ((c.loop-i.i - 1) * 24) 24 (omega (arith, c.loop-i.invariant.within, c.requires, c.loop-i-test.true))

pub anticommutes-on-requires : goal.anticommutes-on-requires
anticommutes-on-requires c = tt

pub overflow_add-marks : goal.overflow_add-marks
overflow_add-marks c = rw (digit c.anticommutes-on.result) (digit_fits c.anticommutes-on.result)

pub bounds-marks-i : goal.bounds-marks-i
bounds-marks-i c = omega (arith, c.loop-i.invariant.long, c.loop-i.invariant.within, c.loop-i-test.true)

pub loop-i-preserved : goal.loop-i-preserved
loop-i-preserved c =
    let i = c.loop-i in
    let a = (i.i - 1) * 24 in
    marks_more i.invariant c.loop-i-test.true (rw (part_size a 24) at c.observable.ensures) c.anticommutes-on.ensures _ (digit c.anticommutes-on.result)

pub shape_of-marks : goal.shape_of-marks
shape_of-marks c = c.loop-i.invariant.long

pub returns : goal.returns
returns c = marks_all c.loop-i.invariant (omega (arith, c.loop-i-test.false))
