-- `annotation::around::put_annotated` meets its contract. Assumes nothing.
use Prim.Native.Nat.{◌-◌}
use mathlib.Core.Path.{◌≡◌}
use lib.ListN.{length}
use Rattle.annotation.specs.Laws.Annotating.{Annotating}
use Rattle.annotation.proofs.around.put_annotated.Given as goal

abbrev pub invariant-loop-at : goal.invariant-loop-at
invariant-loop-at l = Annotating l.job l.p l.initial.out l.k l.at l.next l.out × (length l.qubits ≡ 124) × (length l.words ≡ 136)

abbrev pub decreases-loop-at : goal.decreases-loop-at
decreases-loop-at l = length l.job - l.at
