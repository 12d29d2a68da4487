-- `fault_table::groups_back::put_marks` meets its contract. Assumes nothing.
use lib.ListN.{length}
use Rattle.pauli.specs.Fixed.{as_pauli}
use Rattle.fault_table.specs.Laws.Back.{Marked}
use Rattle.fault_table.proofs.groups_back.put_marks.Given as goal

abbrev pub invariant-loop-i : goal.invariant-loop-i
invariant-loop-i l = Marked (as_pauli l.p) l.state (length l.initial.marks) l.i l.marks
