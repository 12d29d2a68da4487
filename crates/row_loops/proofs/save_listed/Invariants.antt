-- `row_loops::save_listed` meets its contract: what is left to save, from here, comes to the whole.
use mathlib.Core.Path.{◌≡◌}
use Prim.Native.Nat.{◌+◌}
use lib.ListN.{length, drop}
use Rattle.rows.specs.Listed.{collected}
use Rattle.row_loops.proofs.save_listed.Given as goal

abbrev pub invariant-loop-i : goal.invariant-loop-i
invariant-loop-i l = (collected l.w l.rows (l.first + l.i) (drop l.i l.list) l.saved ≡ collected l.w l.rows l.first l.list l.initial.saved) × (length l.saved ≡ length l.initial.saved)
