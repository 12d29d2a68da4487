use mathlib.Core.Path.{◌≡◌, sym, ◌∙◌}
use Prim.Native.Nat.{◌/◌}
use native.Mathlib.Omega.{arith}
use Rattle.blocks.specs.Laws.Round.{group_fits, round_none, round_more, round_end}
use Rattle.blocks.proofs.round.Goals as goal

pub loop-a-init : goal.loop-a-init
loop-a-init c = (round_none _ _ _ c.requires.0, omega arith)

pub overflow_mul-a : goal.overflow_mul-a
overflow_mul-a c = let fits = group_fits (32 / c.args.h) c.args.h c.loop-a.a c.requires.3 (omega arith) in omega arith

pub cross-requires : goal.cross-requires
cross-requires c =
    let fits = group_fits (32 / c.args.h) c.args.h c.loop-a.a c.requires.3 (omega arith) in
    (omega (arith, c.loop-a.invariant.0.long), omega arith)

pub loop-a-preserved : goal.loop-a-preserved
loop-a-preserved c =
    let fits = group_fits (32 / c.args.h) c.args.h c.loop-a.a c.requires.3 (omega arith) in
    (rw c.cross.ensures (round_more c.loop-a.invariant.0 fits), omega arith)

pub shape_of-block : goal.shape_of-block
shape_of-block c = c.loop-a.invariant.0.long ∙ sym c.requires.0

pub returns : goal.returns
returns c =
    let done : c.loop-a.a ≡ 32 / c.args.h = omega arith in
    round_end _ _ _ _ _ c.requires.1 c.requires.3 c.requires.4 (rw done at c.loop-a.invariant.0)
