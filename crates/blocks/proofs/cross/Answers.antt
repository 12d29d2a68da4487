use mathlib.Core.Path.{◌≡◌, refl}
use native.Mathlib.Omega.{arith}
use lib.ListN.{length-set}
use Rattle.blocks.specs.Exchange.{difference, partner}
use Rattle.blocks.specs.Laws.Cross.{crossed_none, crossed_more}
use Rattle.blocks.proofs.cross.Goals as goal

pub loop-i-init : goal.loop-i-init
loop-i-init c = (crossed_none _ _ _ _, refl, omega arith)

pub bounds-block-at-in-loop-i-3 : goal.bounds-block-at-in-loop-i-3
bounds-block-at-in-loop-i-3 c = simp length-set (omega arith)

pub loop-i-preserved : goal.loop-i-preserved
unfolding partner difference
loop-i-preserved c = let inv = c.loop-i.invariant in
    (crossed_more _ _ _ _ _ _ _ _ (omega arith) inv.0 refl refl, simp length-set inv.1, omega arith)

pub shape_of-block : goal.shape_of-block
shape_of-block c = c.loop-i.invariant.1

pub returns : goal.returns
returns c = let done : c.loop-i.i ≡ c.args.h = omega arith in cc
