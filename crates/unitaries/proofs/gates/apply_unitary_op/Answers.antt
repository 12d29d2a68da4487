-- `unitaries::gates::apply_unitary_op` meets its contract: an arm of the match for each rule.
use native.Mathlib.Omega.{arith}
use Rattle.propagator.specs.Laws.Acts.{acts_then, acts_none}
use mathlib.Core.Path.{◌∙◌}
use Rattle.pauli.specs.Code.{gate_named}
use Rattle.pauli.proofs.Laws.Code.{idle_made, swap_made, sqrt_Z_made, sqrt_X_made}
use Rattle.unitaries.specs.Laws.Gates.{has_operand, first_below, last_below, operands_apart, gate_acts}
use Rattle.pauli.specs.Gate.{operands_of, gate_with, prepare_bell, swap_XZ, add_xto_Z, add_zto_X, controlled_X, controlled_Z, controlled_Y, swap_rows_of}
use Rattle.unitaries.proofs.gates.apply_unitary_op.Goals as goal

pub qubit_at-a-requires : goal.qubit_at-a-requires
qubit_at-a-requires c = has_operand _ c.args.qubits.now c.requires.2

pub overflow_sub-qubits : goal.overflow_sub-qubits
overflow_sub-qubits c = has_operand _ c.args.qubits.now c.requires.2

pub qubit_at-b-requires : goal.qubit_at-b-requires
qubit_at-b-requires c = omega (arith, has_operand _ c.args.qubits.now c.requires.2)

pub apply_h-requires : goal.apply_h-requires
apply_h-requires c = (c.requires.0, c.requires.1, first_below _ _ c.requires.2 _ _ c.requires.3 c.qubit_at-a.ensures)

pub apply_s-requires : goal.apply_s-requires
apply_s-requires c = (c.requires.0, c.requires.1, first_below _ _ c.requires.2 _ _ c.requires.3 c.qubit_at-a.ensures)

pub apply_sqrt_x-requires : goal.apply_sqrt_x-requires
apply_sqrt_x-requires c = (c.requires.0, c.requires.1, first_below _ _ c.requires.2 _ _ c.requires.3 c.qubit_at-a.ensures)

pub apply_cnot-requires : goal.apply_cnot-requires
unfolding operands_of gate_named
apply_cnot-requires c = (c.requires.0, c.requires.1, first_below _ _ c.requires.2 _ _ c.requires.3 c.qubit_at-a.ensures, last_below _ _ c.requires.2 _ _ c.requires.3 c.qubit_at-b.ensures, operands_apart _ _ c.requires.2 _ _ (rw c.in-ControlledX.is) c.requires.4 c.qubit_at-a.ensures c.qubit_at-b.ensures)

pub apply_cz-requires : goal.apply_cz-requires
apply_cz-requires c = (c.requires.0, c.requires.1, first_below _ _ c.requires.2 _ _ c.requires.3 c.qubit_at-a.ensures, last_below _ _ c.requires.2 _ _ c.requires.3 c.qubit_at-b.ensures)

pub apply_cy-requires : goal.apply_cy-requires
unfolding operands_of gate_named
apply_cy-requires c = (c.requires.0, c.requires.1, first_below _ _ c.requires.2 _ _ c.requires.3 c.qubit_at-a.ensures, last_below _ _ c.requires.2 _ _ c.requires.3 c.qubit_at-b.ensures, operands_apart _ _ c.requires.2 _ _ (rw c.in-ControlledY.is) c.requires.4 c.qubit_at-a.ensures c.qubit_at-b.ensures)

pub apply_swap-requires : goal.apply_swap-requires
unfolding operands_of gate_named
apply_swap-requires c = (c.requires.0, c.requires.1, first_below _ _ c.requires.2 _ _ c.requires.3 c.qubit_at-a.ensures, last_below _ _ c.requires.2 _ _ c.requires.3 c.qubit_at-b.ensures, operands_apart _ _ c.requires.2 _ _ (rw c.in-Swap.is) c.requires.4 c.qubit_at-a.ensures c.qubit_at-b.ensures)

pub apply_h-requires-in-PrepareBell : goal.apply_h-requires-in-PrepareBell
apply_h-requires-in-PrepareBell c = (c.requires.0, c.requires.1, first_below _ _ c.requires.2 _ _ c.requires.3 c.qubit_at-a.ensures)

pub apply_cnot-requires-in-PrepareBell : goal.apply_cnot-requires-in-PrepareBell
unfolding operands_of gate_named
apply_cnot-requires-in-PrepareBell c = (c.apply_h-in-PrepareBell.auto.x ∙ c.requires.0, c.apply_h-in-PrepareBell.auto.z ∙ c.requires.1, first_below _ _ c.requires.2 _ _ c.requires.3 c.qubit_at-a.ensures, last_below _ _ c.requires.2 _ _ c.requires.3 c.qubit_at-b.ensures, operands_apart _ _ c.requires.2 _ _ (rw c.in-PrepareBell.is) c.requires.4 c.qubit_at-a.ensures c.qubit_at-b.ensures)

pub returns-in-I : goal.returns-in-I
returns-in-I c = λ m d. gate_acts _ c.args.qubits.now c.requires.2 c.qubit_at-a.result.0 c.qubit_at-b.result.0 c.qubit_at-a.ensures c.qubit_at-b.ensures (λ P. P) (λ P. idle_made prepare_bell _ _ _ c.in-I.is) _ _ m _ _ d _ _ (acts_none _ _ _ _)

pub returns-in-Hadamard : goal.returns-in-Hadamard
returns-in-Hadamard c = λ m d. gate_acts _ c.args.qubits.now c.requires.2 c.qubit_at-a.result.0 c.qubit_at-b.result.0 c.qubit_at-a.ensures c.qubit_at-b.ensures (swap_XZ c.qubit_at-a.result.0) (λ P. swap_made prepare_bell _ _ _ c.in-Hadamard.is) _ _ m _ _ d _ _ (c.apply_h.ensures d)

pub returns-in-SqrtZ : goal.returns-in-SqrtZ
returns-in-SqrtZ c = λ m d. gate_acts _ c.args.qubits.now c.requires.2 c.qubit_at-a.result.0 c.qubit_at-b.result.0 c.qubit_at-a.ensures c.qubit_at-b.ensures (add_xto_Z c.qubit_at-a.result.0) (λ P. sqrt_Z_made prepare_bell _ _ _ c.in-SqrtZ.is) _ _ m _ _ d _ _ (c.apply_s.ensures d)

pub returns-in-SqrtX : goal.returns-in-SqrtX
returns-in-SqrtX c = λ m d. gate_acts _ c.args.qubits.now c.requires.2 c.qubit_at-a.result.0 c.qubit_at-b.result.0 c.qubit_at-a.ensures c.qubit_at-b.ensures (add_zto_X c.qubit_at-a.result.0) (λ P. sqrt_X_made prepare_bell _ _ _ c.in-SqrtX.is) _ _ m _ _ d _ _ (c.apply_sqrt_x.ensures d)

pub returns-in-ControlledX : goal.returns-in-ControlledX
unfolding gate_with gate_named
returns-in-ControlledX c = λ m d. gate_acts _ c.args.qubits.now c.requires.2 c.qubit_at-a.result.0 c.qubit_at-b.result.0 c.qubit_at-a.ensures c.qubit_at-b.ensures (controlled_X c.qubit_at-a.result.0 c.qubit_at-b.result.0) (λ P. rw c.in-ControlledX.is) _ _ m _ _ d _ _ (c.apply_cnot.ensures d)

pub returns-in-ControlledZ : goal.returns-in-ControlledZ
unfolding gate_with gate_named
returns-in-ControlledZ c = λ m d. gate_acts _ c.args.qubits.now c.requires.2 c.qubit_at-a.result.0 c.qubit_at-b.result.0 c.qubit_at-a.ensures c.qubit_at-b.ensures (controlled_Z c.qubit_at-a.result.0 c.qubit_at-b.result.0) (λ P. rw c.in-ControlledZ.is) _ _ m _ _ d _ _ (c.apply_cz.ensures d)

pub returns-in-ControlledY : goal.returns-in-ControlledY
unfolding gate_with gate_named
returns-in-ControlledY c = λ m d. gate_acts _ c.args.qubits.now c.requires.2 c.qubit_at-a.result.0 c.qubit_at-b.result.0 c.qubit_at-a.ensures c.qubit_at-b.ensures (controlled_Y c.qubit_at-a.result.0 c.qubit_at-b.result.0) (λ P. rw c.in-ControlledY.is) _ _ m _ _ d _ _ (c.apply_cy.ensures d)

pub returns-in-Swap : goal.returns-in-Swap
unfolding gate_with gate_named
returns-in-Swap c = λ m d. gate_acts _ c.args.qubits.now c.requires.2 c.qubit_at-a.result.0 c.qubit_at-b.result.0 c.qubit_at-a.ensures c.qubit_at-b.ensures (swap_rows_of c.qubit_at-a.result.0 c.qubit_at-b.result.0) (λ P. rw c.in-Swap.is) _ _ m _ _ d _ _ (c.apply_swap.ensures d)

pub returns-in-PrepareBell : goal.returns-in-PrepareBell
unfolding gate_with gate_named prepare_bell
returns-in-PrepareBell c = λ m d. gate_acts _ c.args.qubits.now c.requires.2 c.qubit_at-a.result.0 c.qubit_at-b.result.0 c.qubit_at-a.ensures c.qubit_at-b.ensures (λ P. controlled_X c.qubit_at-a.result.0 c.qubit_at-b.result.0 (swap_XZ c.qubit_at-a.result.0 P)) (λ P. rw c.in-PrepareBell.is) _ _ m _ _ d _ _ (acts_then (c.apply_h-in-PrepareBell.ensures d) (c.apply_cnot-in-PrepareBell.ensures d))
