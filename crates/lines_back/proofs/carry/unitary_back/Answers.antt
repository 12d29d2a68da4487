-- `lines_back::carry::unitary_back` meets its contract. Assumes nothing.
use native.Mathlib.Omega.{arith}
use mathlib.Core.Path.{◌∙◌}
use Rattle.pauli.proofs.Laws.Code.{has_operand, last_of_code}
use Rattle.lines_back.specs.Laws.Parts.{operand_below}
use Rattle.lines_back.proofs.carry.unitary_back.Goals as goal

pub overflow_sub-last : goal.overflow_sub-last
overflow_sub-last c = has_operand c.args.code c.args.qubits.now c.requires.1 c.requires.0

pub qubit_at-requires : goal.qubit_at-requires
qubit_at-requires c = has_operand c.args.code c.args.qubits.now c.requires.1 c.requires.0

pub qubit_at-requires-2 : goal.qubit_at-requires-2
qubit_at-requires-2 c = omega (arith, has_operand c.args.code c.args.qubits.now c.requires.1 c.requires.0)

pub conjugate_back-requires : goal.conjugate_back-requires
conjugate_back-requires c = (rw c.qubit_at.ensures (operand_below 256 _ 0 (omega arith) c.requires.2), rw c.qubit_at-2.ensures (operand_below 256 _ _ (omega arith) c.requires.2))

pub returns : goal.returns
returns c = rw (c.qubit_at.ensures, c.qubit_at-2.ensures) at c.conjugate_back.ensures ∙ last_of_code c.args.code c.args.qubits.now c.requires.1 _ _
