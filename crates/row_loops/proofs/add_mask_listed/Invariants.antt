-- `row_loops::add_mask_listed` meets its contract: what is left to do, from here, comes to the whole, in the loop over two rows at a time and in that over the rest.
use mathlib.Core.Path.{◌≡◌}
use Prim.Native.Nat.{◌*◌}
use lib.ListN.{length, drop}
use Rattle.rows.specs.Overwrite.{xored}
use Rattle.rows.specs.Listed.{RowsIn, over_list}
use Rattle.row_loops.proofs.add_mask_listed.Given as goal

abbrev pub invariant-loop-left : goal.invariant-loop-left
invariant-loop-left l = (over_list (λ q. xored (q * l.w) l.from l.w l.masks) l.left l.rows ≡ over_list (λ q. xored (q * l.w) l.from l.w l.masks) l.list l.initial.rows) × (length l.rows ≡ length l.initial.rows) × RowsIn l.w l.left l.rows

abbrev pub decreases-loop-left : goal.decreases-loop-left
decreases-loop-left l = length l.left

abbrev pub invariant-loop-row : goal.invariant-loop-row
invariant-loop-row l = (over_list (λ q. xored (q * l.w) l.from l.w l.masks) (drop l.row-index l.row-items) l.rows ≡ over_list (λ q. xored (q * l.w) l.from l.w l.masks) l.row-items l.initial.rows) × (length l.rows ≡ length l.initial.rows)
