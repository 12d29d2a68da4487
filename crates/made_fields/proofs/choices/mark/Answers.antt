use native.Mathlib.Omega.{arith}
use mathlib.Core.Path.{◌≡◌}
use Prim.Native.Nat.{◌+◌, ◌-◌}
use Rattle.made_fields.specs.Laws.Lists.{mark_begun, mark_turn, mark_ended}
use Rattle.made_fields.proofs.choices.mark.Goals as goal

pub loop-q-init : goal.loop-q-init
loop-q-init c =
    let none : c.args.from - c.args.from ≡ 0 = omega arith in
    rw none (mark_begun _ _ _ _)

pub keep-count-requires : goal.keep-count-requires
keep-count-requires c = omega (arith, c.loop-q.invariant.few, c.loop-q.invariant.same)

pub loop-q-preserved : goal.loop-q-preserved
loop-q-preserved c =
    let next : c.loop-q.q + 1 - c.args.from ≡ c.loop-q.q - c.args.from + 1 = omega arith in
    rw next (mark_turn c.loop-q.invariant (omega arith) c.keep-count.ensures (omega arith))

pub returns : goal.returns
returns c = (mark_ended c.loop-q.invariant (omega arith), omega (arith, c.loop-q.invariant.few))
