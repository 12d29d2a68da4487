-- `fault_table::put_table` meets its contract. Assumes nothing.
use mathlib.Core.Path.{◌≡◌}
use lib.ListN.{length}
use Rattle.fault_table.specs.Table.{TableReady}
use Rattle.fault_table.specs.Laws.Going.{Going}
use Rattle.fault_table.proofs.put_table.Given as goal

abbrev pub invariant-loop-e : goal.invariant-loop-e
invariant-loop-e l =
    ((q : TableReady l.job l.lines l.initial.state l.groups l.initial.out) → Going l.job q.are l.groups l.state l.kept l.out l.n l.k l.e l.place) × (length l.out ≡ length l.initial.out) × (length l.state ≡ length l.initial.state) × (length l.words ≡ 136)

abbrev pub decreases-loop-e : goal.decreases-loop-e
decreases-loop-e l = l.e
