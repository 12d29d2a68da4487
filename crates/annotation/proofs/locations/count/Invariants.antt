-- `annotation::locations::count` meets its contract. Assumes nothing.
use Prim.Native.Nat.{◌-◌}
use mathlib.Core.Path.{◌≡◌}
use lib.ListN.{length}
use Rattle.annotation.specs.Laws.Counting.{Counting}
use Rattle.annotation.proofs.locations.count.Given as goal

abbrev pub invariant-loop-at : goal.invariant-loop-at
invariant-loop-at l = Counting l.job l.at l.total × (length l.qubits ≡ 124) × (length l.words ≡ 136)

abbrev pub decreases-loop-at : goal.decreases-loop-at
decreases-loop-at l = length l.job - l.at
