use mathlib.Core.Path.{◌≡◌, refl, ◌∙◌}
use Prim.Native.Nat.{◌+◌, ◌/◌}
use native.Mathlib.Omega.{arith}
use Rattle.by_shot.specs.Laws.Block.{room_kept}
use Rattle.by_shot.specs.Laws.Done.{done_none, done_all}
use Rattle.by_shot.proofs.transpose.Goals as goal

pub loop-b-init : goal.loop-b-init
loop-b-init c = (done_none _ _ _ _, refl, λ i. (c.type_inv.target i).fits, omega arith)

pub transpose_group-requires : goal.transpose_group-requires
transpose_group-requires c = (room_kept _ c.loop-b.invariant.1 c.requires.0, omega arith, c.loop-b.invariant.0)

pub loop-b-preserved : goal.loop-b-preserved
loop-b-preserved c =
    (c.transpose_group.ensures, c.transpose_group.auto.target ∙ c.loop-b.invariant.1, λ i. (c.type_inv.target i).fits, omega arith)

pub shape_of-target : goal.shape_of-target
shape_of-target c = c.loop-b.invariant.1

pub returns : goal.returns
returns c =
    let inv = c.loop-b.invariant in
    let done : c.loop-b.b ≡ (c.args.columns + 63) / 64 = omega arith in
    done_all _ _ _ _ (inv.1 ∙ c.requires.1) inv.2 (rw done at inv.0)
