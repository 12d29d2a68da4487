-- `fault_table::groups::grouping` meets its contract. Assumes nothing.
use Prim.Native.Nat.{◌-◌, ◌≤◌}
use mathlib.Core.Path.{◌≡◌}
use lib.ListN.{length, drop}
use Rattle.single_faults.specs.Groups.{groups_of}
use Rattle.fault_table.specs.Lent.{grouping_of}
use Rattle.fault_table.proofs.groups.grouping.Given as goal

abbrev pub invariant-loop-at : goal.invariant-loop-at
invariant-loop-at l = (l.n ≤ l.at) × (l.at ≤ length l.list) × (grouping_of l.recorded 0 (groups_of l.list) ≡ grouping_of l.recorded l.n (groups_of (drop l.at l.list)))

abbrev pub decreases-loop-at : goal.decreases-loop-at
decreases-loop-at l = length l.list - l.at
