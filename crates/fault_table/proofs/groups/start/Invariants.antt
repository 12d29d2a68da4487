-- `fault_table::groups::start` meets its contract. Assumes nothing.
use Prim.Native.Nat.{◌-◌}
use mathlib.Core.Path.{◌≡◌}
use lib.ListN.{length}
use Rattle.fault_table.specs.Lent.{Startable}
use Rattle.fault_table.specs.Laws.Words.{Starting}
use Rattle.fault_table.proofs.groups.start.Given as goal

abbrev pub invariant-loop-at : goal.invariant-loop-at
invariant-loop-at l = ((q : Startable l.list l.initial.state) → Starting q l.at l.a l.state) × (length l.state ≡ length l.initial.state)

abbrev pub decreases-loop-at : goal.decreases-loop-at
decreases-loop-at l = length l.list - l.at
