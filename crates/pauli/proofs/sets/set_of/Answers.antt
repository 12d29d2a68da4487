use native.Mathlib.Omega.{arith}
use mathlib.Core.Path.{◌∙◌}
use Rattle.pauli.specs.Bits.{members, none}
use Rattle.pauli.proofs.Laws.Set.{in_none, members_next}
use Rattle.pauli.proofs.sets.set_of.Goals as goal

pub loop-n-init : goal.loop-n-init
unfolding members none
loop-n-init g c = (omega arith, in_none _)

pub loop-n-preserved : goal.loop-n-preserved
loop-n-preserved g c = (omega arith, c.insert.ensures.1 ∙ members_next _ c.args.numbers.now c.loop-n.n-index (omega arith) c.loop-n.invariant.1)
