-- `pauli::operand_count` meets its contract: one count over each of the two ranges of codes, computed at every code of the range.
use mathlib.Core.Path.{refl}
use native.Mathlib.Omega.{arith}
use Rattle.pauli.specs.Gate.{gates, gate_from, gate_of, operands_of}
use Rattle.pauli.specs.Code.{operand_count_of}
use Rattle.pauli.proofs.Laws.Code.{same_at, gate_none}
use Rattle.pauli.proofs.operand_count.Goals as goal

pub returns-then-code-le-LAST_ONE_QUBIT_GATE : goal.returns-then-code-le-LAST_ONE_QUBIT_GATE
unfolding operand_count_of operands_of gate_of gate_from gates
returns-then-code-le-LAST_ONE_QUBIT_GATE c = same_at (λ _. 1) (λ k. operand_count_of (gate_of k)) 0 11 refl c.args.code (omega arith) (omega arith)

pub returns-then-code-le-LAST_GATE : goal.returns-then-code-le-LAST_GATE
unfolding operand_count_of operands_of gate_of gate_from gates
returns-then-code-le-LAST_GATE c = same_at (λ _. 2) (λ k. operand_count_of (gate_of k)) 11 5 refl c.args.code (omega arith) (omega arith)

pub returns : goal.returns
unfolding operand_count_of
returns c = rw (gate_none c.args.code (omega arith))
