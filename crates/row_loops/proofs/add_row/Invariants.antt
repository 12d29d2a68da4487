-- `row_loops::add_row` meets its contract: after j turns j words of row dst have been written, and the word of row src that a turn adds is as it was at entry.
use mathlib.Core.Path.{◌≡◌}
use Prim.Native.Nat.{◌≤◌}
use lib.ListN.{length}
use Rattle.rows.specs.Overwrite.{xored}
use Rattle.row_loops.proofs.add_row.Given as goal

abbrev pub invariant-loop-j : goal.invariant-loop-j
invariant-loop-j l = (l.rows ≡ xored l.at l.from l.j l.initial.rows l.initial.rows) × (length l.rows ≡ length l.initial.rows) × (l.j ≤ l.w)
