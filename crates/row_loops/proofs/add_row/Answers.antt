use mathlib.Core.Path.{◌≡◌, refl}
use lib.ListN.{length-set}
use Rattle.rows.proofs.Laws.Overwrite.{xored_none, xored_more, xored_next, rows_apart}
use native.Mathlib.Omega.{arith}
use Rattle.row_loops.proofs.add_row.Goals as goal

pub loop-j-init : goal.loop-j-init
loop-j-init c = (xored_none _ _ _ _, refl, omega arith)

pub loop-j-preserved : goal.loop-j-preserved
loop-j-preserved c =
    let e = c.loop-j.invariant.0 in
    let apart = rows_apart _ _ _ c.requires.2 in
    (xored_more _ _ _ _ _ _ _ e (xored_next _ _ _ _ _ _ apart (omega arith) e), simp length-set c.loop-j.invariant.1, omega arith)

pub shape_of-rows : goal.shape_of-rows
shape_of-rows c = c.loop-j.invariant.1

pub returns : goal.returns
returns c = let done : c.loop-j.j ≡ c.args.w = omega arith in cc
