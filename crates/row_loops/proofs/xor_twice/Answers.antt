use mathlib.Core.Path.{◌≡◌, refl, ◌∙◌}
use native.Mathlib.Omega.{arith}
use lib.ListN.{length-set}
use Rattle.rows.proofs.Laws.Overwrite.{xored_none, twice_more}
use Rattle.row_loops.proofs.xor_twice.Goals as goal

pub loop-j-init : goal.loop-j-init
loop-j-init c = (xored_none _ _ _ _ ∙ xored_none _ _ _ _, refl, omega arith)

pub bounds-dst-second : goal.bounds-dst-second
bounds-dst-second c = simp length-set (omega arith)

pub bounds-dst-second-in-loop-j : goal.bounds-dst-second-in-loop-j
bounds-dst-second-in-loop-j c = simp length-set (omega arith)

pub loop-j-preserved : goal.loop-j-preserved
loop-j-preserved c =
    (twice_more _ _ _ _ _ _ _ (λ a b. omega (arith, c.requires.3 (omega arith))) c.loop-j.invariant.0 _ refl, simp length-set c.loop-j.invariant.1, omega arith)

pub shape_of-dst : goal.shape_of-dst
shape_of-dst c = c.loop-j.invariant.1

pub returns : goal.returns
returns c = let done : c.loop-j.j ≡ c.args.n = omega arith in cc
