-- `execution::injection::inject_faults` meets its contract. Assumes nothing.
use Rattle.execution.specs.Laws.Faults.{Injecting}
use mathlib.Core.List.{◌++◌}
use lib.ListN.{length}
use Prim.Native.Nat.{◌-◌, ◌≤◌}
use mathlib.Core.Path.{◌≡◌}
use Rattle.execution.proofs.injection.inject_faults.Given as goal

abbrev pub invariant-loop-position : goal.invariant-loop-position
invariant-loop-position l =
    (l.at ≤ length (l.words ++ l.more)) × (l.next_shot ≤ l.shots) × (length l.x ≡ length l.initial.x) × (length l.z ≡ length l.initial.z)
    × Injecting l.shape.qubits l.shots l.shape.width l.p l.distribution l.sums l.elements l.mask (l.words ++ l.more) l.initial.x l.initial.z l.x l.z l.at l.next_shot

abbrev pub decreases-loop-position : goal.decreases-loop-position
decreases-loop-position l = l.shots - l.next_shot
