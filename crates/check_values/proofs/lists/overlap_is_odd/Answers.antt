use native.Mathlib.Omega.{arith}
use mathlib.Core.Path.{refl}
use mathlib.Core.Bool.{false}
use lib.ListN.{get_or-replicate}
use Rattle.pauli.specs.Bits.{◌⊕◌}
use Rattle.check_values.specs.Laws.Overlap.{next_counted, all_counted}
use Rattle.check_values.proofs.lists.overlap_is_odd.Goals as goal

pub mark_all-requires : goal.mark_all-requires
mark_all-requires c = record { is = λ q h. get_or-replicate 256 q false false (omega arith) }

pub loop-q-init : goal.loop-q-init
unfolding ◌⊕◌
loop-q-init c = (omega arith, c.mark_all.ensures, refl)

pub is_marked-odd-requires : goal.is_marked-odd-requires
is_marked-odd-requires c = c.loop-q.invariant.1

pub loop-q-preserved : goal.loop-q-preserved
loop-q-preserved c =
    let inv = c.loop-q.invariant in
    (omega arith, inv.1, rw (c.is_marked-odd.ensures, c.from.ensures) (next_counted _ _ _ _ c.loop-q-test.true inv.2))

pub returns : goal.returns
returns c = λ rl rm. all_counted _ _ _ c.loop-q.q-index c.loop-q-test.false c.loop-q.invariant.2
