use mathlib.Core.Path.{◌≡◌, refl}
use native.Mathlib.Omega.{arith}
use lib.ListN.{length-set, length-take}
use Prim.Native.Nat.{◌<◌}
use Rattle.std.proofs.lemmas.List.{get_or-take}
use Rattle.blocks.specs.Laws.Strided.{scattered_none, scattered_more}
use Rattle.blocks.proofs.scatter.Goals as goal

pub loop-j-init : goal.loop-j-init
loop-j-init c = (scattered_none _ _ _ _, refl, omega arith)

pub overflow_mul-dst : goal.overflow_mul-dst
overflow_mul-dst c = omega (arith, c.requires.1.inside c.loop-j.j (omega (arith, length-take c.args.n c.args.block.now)))

pub overflow_add-dst : goal.overflow_add-dst
overflow_add-dst c = omega (arith, c.requires.1.inside c.loop-j.j (omega (arith, length-take c.args.n c.args.block.now)))

pub offset_bounds-dst-at : goal.offset_bounds-dst-at
offset_bounds-dst-at c = omega (arith, c.requires.1.inside c.loop-j.j (omega (arith, length-take c.args.n c.args.block.now)))

pub bounds-dst-at : goal.bounds-dst-at
bounds-dst-at c = omega (arith, c.requires.1.inside c.loop-j.j (omega (arith, length-take c.args.n c.args.block.now)))

pub loop-j-preserved : goal.loop-j-preserved
loop-j-preserved c =
    let inv = c.loop-j.invariant in
    let below : c.loop-j.j < c.args.n = omega (arith, length-take c.args.n c.args.block.now) in
    (scattered_more _ _ _ _ _ _ _ inv.0 (get_or-take c.args.n c.args.block.now c.loop-j.j 0 below), simp length-set inv.1, omega (arith, below))

pub shape_of-dst : goal.shape_of-dst
shape_of-dst c = c.loop-j.invariant.1

pub returns : goal.returns
returns c = let done : c.loop-j.j ≡ c.args.n = omega (arith, length-take c.args.n c.args.block.now) in cc
