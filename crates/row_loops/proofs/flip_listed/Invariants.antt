-- `row_loops::flip_listed` meets its contract: what is left to do, from here, comes to the whole.
use mathlib.Core.Path.{◌≡◌}
use lib.ListN.{length, drop}
use Rattle.rows.specs.Overwrite.{flipped}
use Rattle.rows.specs.Listed.{over_list}
use Rattle.row_loops.proofs.flip_listed.Given as goal

abbrev pub invariant-loop-row : goal.invariant-loop-row
invariant-loop-row l = (over_list (flipped l.w l.shot.0) (drop l.row-index l.list) l.rows ≡ over_list (flipped l.w l.shot.0) l.list l.initial.rows) × (length l.rows ≡ length l.initial.rows)
