-- `walker::walk_lines` meets its contract. Assumes nothing.
use mathlib.Core.Path.{◌≡◌}
use lib.ListN.{length}
use Rattle.pauli.specs.Fixed.{in_set}
use Rattle.walker.specs.Steps.{Going}
use Rattle.walker.proofs.walk_lines.Given as goal

abbrev pub invariant-loop-e : goal.invariant-loop-e
invariant-loop-e l = Going l.job l.shot.0 (in_set l.initial.set) l.w l.set l.k l.e × (length l.values ≡ 136)

abbrev pub decreases-loop-e : goal.decreases-loop-e
decreases-loop-e l = l.e
