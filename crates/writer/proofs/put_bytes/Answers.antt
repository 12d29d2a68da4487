use mathlib.Core.Path.{◌≡◌, ◌∙◌}
use Rattle.writer.specs.Laws.Placing.{copied_none, copied_length, copied_more, copied_all}
use native.Mathlib.Omega.{arith}
use Rattle.writer.proofs.put_bytes.Goals as goal

pub room-n-requires : goal.room-n-requires
room-n-requires c = tt

pub loop-i-init : goal.loop-i-init
loop-i-init c = (omega arith, copied_none)

pub bounds-s-i : goal.bounds-s-i
bounds-s-i c = omega arith

pub overflow_add-out : goal.overflow_add-out
overflow_add-out c = omega arith

pub bounds-out-at : goal.bounds-out-at
bounds-out-at c = omega (arith, copied_length c.loop-i.invariant.1)

pub loop-i-preserved : goal.loop-i-preserved
loop-i-preserved c = (omega arith, copied_more c.loop-i.invariant.1 (omega arith))

pub overflow_add-result : goal.overflow_add-result
overflow_add-result c = omega arith

pub shape_of-out : goal.shape_of-out
shape_of-out c = copied_length c.loop-i.invariant.1

pub returns : goal.returns
returns c = let e : c.loop-i.i ≡ c.room-n.result = omega arith in copied_all c.loop-i.invariant.1 (e ∙ c.room-n.ensures)
