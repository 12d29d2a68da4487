-- `made_lines::gates::table_qubits` meets its contract. Assumes nothing.
use mathlib.Core.Path.{refl}
use native.Mathlib.Omega.{arith}
use Rattle.made.specs.Making.{tables}
use Rattle.made_lines.specs.Laws.Cliffords.{one_qubit, last_qubits}
use Rattle.made_lines.proofs.gates.table_qubits.Goals as goal

pub returns-in-6 : goal.returns-in-6
returns-in-6 c = unfold tables in rw c.in-6.is refl

pub returns-in-0-to-5 : goal.returns-in-0-to-5
returns-in-0-to-5 c = one_qubit _ (omega arith)

pub returns-in_default : goal.returns-in_default
returns-in_default c = last_qubits _ (omega arith)
