-- `lines_back::carry::parts_at` meets its contract. Assumes nothing.
use Prim.Native.Nat.{◌≤◌}
use lib.ListN.{length, get_or}
use Rattle.pauli.specs.Fixed.{in_set}
use Rattle.lines_back.specs.Packed.{Packed}
use Rattle.lines_back.proofs.carry.parts_at.Given as goal

abbrev pub invariant-loop-i : goal.invariant-loop-i
invariant-loop-i l = (l.i ≤ length l.qubits) × Packed l.i (λ j. in_set l.set (get_or l.qubits j 0)) l.w
