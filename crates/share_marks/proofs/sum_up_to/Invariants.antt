-- `share_marks::sum_up_to` meets its contract. Assumes nothing.
use mathlib.Core.Path.{◌≡◌}
use Prim.Native.Nat.{◌-◌, ◌≤◌}
use lib.ListN.{take}
use Rattle.shares.specs.Shares.{sum}
use Rattle.share_marks.proofs.sum_up_to.Given as goal

abbrev pub invariant-loop-share : goal.invariant-loop-share
invariant-loop-share l = (l.share-index ≤ l.n) × (l.total ≤ l.most) × (l.total ≡ sum (take l.share-index l.shares))
