use native.Mathlib.Omega.{arith}
use Rattle.lines_back.specs.Laws.Packed.{packed_none, packed_all}
use Rattle.lines_back.proofs.carry.parts_at.Goals as goal

pub loop-i-init : goal.loop-i-init
loop-i-init c = (omega arith, packed_none _)

pub has_qubit-requires : goal.has_qubit-requires
has_qubit-requires c = tt

pub with_bit-w-requires : goal.with_bit-w-requires
with_bit-w-requires c = omega arith

pub loop-i-preserved : goal.loop-i-preserved
loop-i-preserved c = (omega arith, c.with_bit-w.ensures _ c.loop-i.invariant.1 (rw c.from.ensures at c.has_qubit.ensures))

pub returns : goal.returns
returns c = packed_all c.loop-i.invariant.1 c.loop-i.invariant.0 c.loop-i-test.false
