use mathlib.Core.Path.{◌≡◌, refl, ◌∙◌}
use native.Mathlib.Omega.{arith}
use lib.ListN.{length-set}
use Rattle.rows.proofs.Laws.Overwrite.{xored_none, four_more}
use Rattle.row_loops.proofs.xor_four.Goals as goal

pub loop-j-init : goal.loop-j-init
loop-j-init c = (xored_none _ _ _ _ ∙ xored_none _ _ _ _ ∙ xored_none _ _ _ _ ∙ xored_none _ _ _ _, refl, omega arith)

pub loop-j-preserved : goal.loop-j-preserved
loop-j-preserved c =
    let inv = c.loop-j.invariant in
    (four_more _ _ _ _ _ _ _ _ _ (omega arith) inv.0, simp length-set inv.1, omega arith)

pub shape_of-dst : goal.shape_of-dst
shape_of-dst c = c.loop-j.invariant.1

pub returns : goal.returns
returns c = let done : c.loop-j.j ≡ c.args.n = omega arith in cc
