use mathlib.Core.Path.{◌≡◌, refl}
use lib.ListN.{length-set}
use Rattle.rows.proofs.Laws.Overwrite.{swapped_none, swapped_more, rows_apart}
use native.Mathlib.Omega.{arith}
use Rattle.row_loops.proofs.swap_rows.Goals as goal

pub loop-j-init : goal.loop-j-init
loop-j-init c = (swapped_none _ _ _, refl, omega arith)

pub bounds-rows-second-in-loop-j : goal.bounds-rows-second-in-loop-j
bounds-rows-second-in-loop-j c = simp length-set (omega arith)

pub loop-j-preserved : goal.loop-j-preserved
loop-j-preserved c =
    let apart = rows_apart _ _ _ c.requires.2 in
    (swapped_more _ _ _ _ _ _ apart (omega arith) c.loop-j.invariant.0, simp length-set c.loop-j.invariant.1, omega arith)

pub shape_of-rows : goal.shape_of-rows
shape_of-rows c = c.loop-j.invariant.1

pub returns : goal.returns
returns c = let done : c.loop-j.j ≡ c.args.w = omega arith in cc
