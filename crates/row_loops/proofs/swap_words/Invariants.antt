-- `row_loops::swap_words` meets its contract: after j turns each list has the first j words of the other.
use mathlib.Core.Path.{◌≡◌}
use Prim.Native.Nat.{◌≤◌}
use lib.ListN.{length}
use Rattle.rows.specs.Overwrite.{copied}
use Rattle.row_loops.proofs.swap_words.Given as goal

abbrev pub invariant-loop-j : goal.invariant-loop-j
invariant-loop-j l = (l.x ≡ copied l.at l.at l.j l.initial.z l.initial.x) × (l.z ≡ copied l.at l.at l.j l.initial.x l.initial.z) × (length l.x ≡ length l.initial.x) × (length l.z ≡ length l.initial.z) × (l.j ≤ l.n)
