-- `lines_back::carry::reset_back` meets its contract. Assumes nothing.
use Rattle.pauli.specs.Pauli.{cleared}
use Rattle.pauli.specs.Fixed.{as_pauli}
use Rattle.lines_back.specs.Laws.Parts.{ToClear}
use Rattle.lines_back.proofs.carry.reset_back.Given as goal

abbrev pub invariant-loop-q : goal.invariant-loop-q
invariant-loop-q l = ToClear (cleared l.qubits (as_pauli l.initial.r)) l.qubits l.q-index (as_pauli l.r)
