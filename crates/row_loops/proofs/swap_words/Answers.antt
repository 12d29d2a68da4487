use mathlib.Core.Path.{◌≡◌, refl}
use lib.ListN.{length-set}
use Rattle.rows.proofs.Laws.Overwrite.{copied_none, copied_more, copied_next}
use native.Mathlib.Omega.{arith}
use Rattle.row_loops.proofs.swap_words.Goals as goal

pub loop-j-init : goal.loop-j-init
loop-j-init c = (copied_none _ _ _ _, copied_none _ _ _ _, refl, refl, omega arith)

pub loop-j-preserved : goal.loop-j-preserved
loop-j-preserved c =
    let inv = c.loop-j.invariant in (
      copied_more _ _ _ _ _ _ _ inv.0 (copied_next _ _ _ _ _ _ inv.1),
      copied_more _ _ _ _ _ _ _ inv.1 (copied_next _ _ _ _ _ _ inv.0),
      simp length-set inv.2,
      simp length-set inv.3,
      omega arith,
    )

pub shape_of-x : goal.shape_of-x
shape_of-x c = c.loop-j.invariant.2

pub shape_of-z : goal.shape_of-z
shape_of-z c = c.loop-j.invariant.3

pub returns : goal.returns
returns c = let done : c.loop-j.j ≡ c.args.n = omega arith in (cc, cc)
