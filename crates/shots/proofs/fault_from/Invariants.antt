-- `shots::fault_from` meets its contract. The invariant: the next fault from here on is the next one from the start.
use Rattle.shots.specs.Laws.Shots.{Later}
use lib.ListN.{length}
use mathlib.Core.List.{◌++◌}
use Prim.Native.Nat.{◌-◌, ◌≤◌}
use Rattle.shots.proofs.fault_from.Given as goal

abbrev pub invariant-loop-s : goal.invariant-loop-s
invariant-loop-s l =
    (l.next ≤ length (l.words ++ l.more)) × (l.initial.s ≤ l.s) × (l.s ≤ l.shots)
    × Later (l.words ++ l.more) l.mask l.shots l.p l.chooser.distribution l.sums l.initial.s l.at l.s l.next

abbrev pub decreases-loop-s : goal.decreases-loop-s
decreases-loop-s l = l.shots - l.s
