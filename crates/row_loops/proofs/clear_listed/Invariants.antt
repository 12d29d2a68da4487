-- `row_loops::clear_listed` meets its contract: what is left to do, from here, comes to the whole.
use mathlib.Core.Path.{◌≡◌}
use Prim.Native.Nat.{◌*◌}
use lib.ListN.{length, drop}
use Rattle.rows.specs.Overwrite.{cleared}
use Rattle.rows.specs.Listed.{over_list}
use Rattle.row_loops.proofs.clear_listed.Given as goal

abbrev pub invariant-loop-row : goal.invariant-loop-row
invariant-loop-row l = (over_list (λ q. cleared (q * l.w) l.w) (drop l.row-index l.list) l.rows ≡ over_list (λ q. cleared (q * l.w) l.w) l.list l.initial.rows) × (length l.rows ≡ length l.initial.rows)
