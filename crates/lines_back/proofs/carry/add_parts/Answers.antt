use native.Mathlib.Omega.{arith}
use mathlib.Core.Path.{ap}
use Rattle.pauli.specs.Pauli.{Pauli, added_at}
use Rattle.pauli.specs.Fixed.{as_pauli}
use Rattle.pauli.proofs.Laws.Word.{bit_is}
use Rattle.job.proofs.Laws.Lists.{below_at}
use Rattle.lines_back.specs.Laws.Parts.{all_left, one_added, none_left}
use Rattle.lines_back.proofs.carry.add_parts.Goals as goal

pub loop-i-init : goal.loop-i-init
loop-i-init c = (all_left _ _ _, all_left _ _ _)

pub overflow_shr-x : goal.overflow_shr-x
overflow_shr-x c = omega arith

pub overflow_shr-z : goal.overflow_shr-z
overflow_shr-z c = omega arith

pub add_at-r-requires : goal.add_at-r-requires
add_at-r-requires c = rw c.from.ensures (below_at 256 _ c.requires.1 c.loop-i.i (omega arith))

pub loop-i-preserved : goal.loop-i-preserved
unfolding as_pauli added_at
loop-i-preserved c = (one_added c.loop-i.invariant.0 _ c.loop-i-test.true (rw bit_is (ap (λ (P : Pauli). P.x) (rw c.from.ensures at c.add_at-r.ensures))), one_added c.loop-i.invariant.1 _ c.loop-i-test.true (rw bit_is (ap (λ (P : Pauli). P.z) (rw c.from.ensures at c.add_at-r.ensures))))

pub returns : goal.returns
returns c = (none_left c.loop-i.invariant.0 c.loop-i-test.false, none_left c.loop-i.invariant.1 c.loop-i-test.false)
