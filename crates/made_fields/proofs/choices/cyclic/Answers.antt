use native.Mathlib.Omega.{arith}
use Rattle.made_fields.specs.Laws.Lists.{cycle_begun, cycle_turn, cycle_ended}
use Rattle.made_fields.proofs.choices.cyclic.Goals as goal

pub loop-i-init : goal.loop-i-init
loop-i-init c = cycle_begun _ _ _ _

pub overflow_add-list : goal.overflow_add-list
overflow_add-list c = omega arith

pub nonzero_rem-list : goal.nonzero_rem-list
nonzero_rem-list c = omega arith

pub offset_bounds-list-i : goal.offset_bounds-list-i
offset_bounds-list-i c = omega arith

pub bounds-list-i : goal.bounds-list-i
bounds-list-i c = omega arith

pub loop-i-preserved : goal.loop-i-preserved
loop-i-preserved c = cycle_turn c.loop-i.invariant c.loop-i-test.true (omega arith)

pub shape_of-list : goal.shape_of-list
shape_of-list c = c.loop-i.invariant.same

pub returns : goal.returns
returns c = cycle_ended c.loop-i.invariant c.loop-i-test.false
