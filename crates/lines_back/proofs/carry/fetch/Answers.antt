use native.Mathlib.Omega.{arith}
use mathlib.Core.Path.{sym}
use Rattle.pauli.proofs.Laws.Word.{bit_is}
use Rattle.job.proofs.Laws.Lists.{below_at}
use Rattle.lines_back.specs.Laws.Packed.{packed_none, packed_all}
use Rattle.lines_back.proofs.carry.fetch.Goals as goal

pub loop-i-init : goal.loop-i-init
loop-i-init c = (omega arith, packed_none _)

pub offset_bounds-places-i : goal.offset_bounds-places-i
offset_bounds-places-i c = omega arith

pub bounds-places-i : goal.bounds-places-i
bounds-places-i c = omega arith

pub overflow_shr-w : goal.overflow_shr-w
overflow_shr-w c = let small = below_at _ _ c.requires.1 c.loop-i.i (omega arith) in omega arith

pub with_bit-r-requires : goal.with_bit-r-requires
with_bit-r-requires c = omega arith

pub loop-i-preserved : goal.loop-i-preserved
loop-i-preserved c = (omega arith, c.with_bit-r.ensures _ c.loop-i.invariant.1 (sym (bit_is _ _)))

pub returns : goal.returns
returns c = packed_all c.loop-i.invariant.1 c.loop-i.invariant.0 c.loop-i-test.false
