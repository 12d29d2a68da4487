-- `lines_back::carry::add_parts` meets its contract. Assumes nothing.
use Rattle.pauli.specs.Fixed.{in_set}
use Rattle.lines_back.specs.Laws.Parts.{PartsToAdd}
use Rattle.lines_back.proofs.carry.add_parts.Given as goal

abbrev pub invariant-loop-i : goal.invariant-loop-i
invariant-loop-i l = PartsToAdd (in_set l.initial.r.x) l.qubits l.x l.i (in_set l.r.x) × PartsToAdd (in_set l.initial.r.z) l.qubits l.z l.i (in_set l.r.z)
