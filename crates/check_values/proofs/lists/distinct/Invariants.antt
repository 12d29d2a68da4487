-- `check_values::lists::distinct` meets its contract. Assumes nothing.
use mathlib.Core.Path.{◌≡◌}
use Prim.Native.Nat.{◌≤◌}
use lib.ListN.{length, drop}
use Rattle.job.specs.Checks.{distinct as Checks·distinct}
use Rattle.check_values.proofs.lists.distinct.Given as goal

abbrev pub invariant-loop-i : goal.invariant-loop-i
invariant-loop-i l = (l.i ≤ length l.members) × (Checks·distinct l.members ≡ Checks·distinct (drop l.i l.members))
