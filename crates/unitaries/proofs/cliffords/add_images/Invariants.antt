-- `unitaries::cliffords::add_images` meets its contract: what is left, from operand i on, comes to the whole.
use Rattle.unitaries.specs.Laws.Images.{ImagesLeft}
use mathlib.Core.Path.{◌≡◌}
use lib.ListN.{length}
use Prim.Native.Nat.{◌-◌}
use Rattle.job.specs.Clifford.{table_of}
use Rattle.unitaries.proofs.cliffords.add_images.Given as goal

abbrev pub invariant-loop-i : goal.invariant-loop-i
invariant-loop-i l = ImagesLeft l.shape.width l.qubits (table_of l.table) l.saved l.initial.x l.initial.z l.i l.x l.z × (length l.x ≡ length l.initial.x) × (length l.z ≡ length l.initial.z)
