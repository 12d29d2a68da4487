-- `row_loops::copy` meets its contract: after j turns the first j words of the run are those of src.
use mathlib.Core.Path.{◌≡◌}
use Prim.Native.Nat.{◌≤◌}
use lib.ListN.{length}
use Rattle.rows.specs.Overwrite.{copied}
use Rattle.row_loops.proofs.copy.Given as goal

abbrev pub invariant-loop-j : goal.invariant-loop-j
invariant-loop-j l = (l.dst ≡ copied l.at l.from l.j l.src l.initial.dst) × (length l.dst ≡ length l.initial.dst) × (l.j ≤ l.n)
