-- `row_loops::swap_rows` meets its contract: after j turns the first j words of the two rows have been exchanged.
use mathlib.Core.Path.{◌≡◌}
use Prim.Native.Nat.{◌≤◌}
use lib.ListN.{length}
use Rattle.rows.specs.Overwrite.{swapped}
use Rattle.row_loops.proofs.swap_rows.Given as goal

abbrev pub invariant-loop-j : goal.invariant-loop-j
invariant-loop-j l = (l.rows ≡ swapped l.first l.second l.j l.initial.rows) × (length l.rows ≡ length l.initial.rows) × (l.j ≤ l.w)
