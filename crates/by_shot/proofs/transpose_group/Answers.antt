use mathlib.Core.Path.{◌≡◌, refl, ◌∙◌}
use Prim.Native.Nat.{◌+◌, ◌/◌}
use native.Mathlib.Omega.{arith}
use Rattle.by_shot.specs.Laws.Block.{room_kept}
use Rattle.by_shot.specs.Laws.Done.{done_group}
use Rattle.by_shot.proofs.transpose_group.Goals as goal

pub loop-a-init : goal.loop-a-init
loop-a-init c = (c.requires.2, refl, omega arith)

pub transpose_block-requires : goal.transpose_block-requires
transpose_block-requires c =
    (room_kept _ c.loop-a.invariant.1 c.requires.0, omega arith, c.requires.1, c.loop-a.invariant.0)

pub loop-a-preserved : goal.loop-a-preserved
loop-a-preserved c = (c.transpose_block.ensures, c.transpose_block.auto.target ∙ c.loop-a.invariant.1, omega arith)

pub shape_of-target : goal.shape_of-target
shape_of-target c = c.loop-a.invariant.1

pub returns : goal.returns
returns c =
    let done : c.loop-a.a ≡ (c.args.rows + 63) / 64 = omega arith in
    done_group _ _ _ _ _ (rw done at c.loop-a.invariant.0)
