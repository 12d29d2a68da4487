-- `unitaries::cliffords::add_image` meets its contract: what is left of the row, from operand j on, comes to the whole.
use Rattle.pauli.specs.Bits.{bit}
use Prim.Native.Nat.{◌+◌, ◌*◌, ◌-◌}
use mathlib.Core.Path.{◌≡◌}
use Rattle.unitaries.specs.Laws.Images.{RowLeft}
use lib.ListN.{length}
use Rattle.job.specs.Clifford.{table_of}
use Rattle.unitaries.proofs.cliffords.add_image.Given as goal

abbrev pub invariant-loop-j : goal.invariant-loop-j
invariant-loop-j l = RowLeft l.shape.width (λ c. bit (table_of l.table) (2 * length l.qubits * l.r + c)) l.qubits l.r l.saved l.initial.x l.j l.x × RowLeft l.shape.width (λ c. bit (table_of l.table) (2 * length l.qubits * l.r + (length l.qubits + c))) l.qubits l.r l.saved l.initial.z l.j l.z × (length l.x ≡ length l.initial.x) × (length l.z ≡ length l.initial.z)
