-- `pauli::Pauli::conjugate_by_gate` meets its contract.
use mathlib.Core.Path.{◌∙◌}
use Rattle.pauli.specs.Gate.{gate_with, prepare_bell}
use Rattle.pauli.specs.Code.{gate_named}
use Rattle.pauli.proofs.Laws.Code.{idle_made, swap_made, sqrt_Z_made, sqrt_X_made}
use Rattle.pauli.proofs.Pauli.conjugate_by_gate.Goals as goal

pub returns-in-I : goal.returns-in-I
returns-in-I c = idle_made prepare_bell _ _ _ c.in-I.is

pub returns-in-Hadamard : goal.returns-in-Hadamard
returns-in-Hadamard c = c.swap_parts.ensures ∙ swap_made prepare_bell _ _ _ c.in-Hadamard.is

pub returns-in-SqrtZ : goal.returns-in-SqrtZ
returns-in-SqrtZ c = c.add_x_to_z.ensures ∙ sqrt_Z_made prepare_bell _ _ _ c.in-SqrtZ.is

pub returns-in-SqrtX : goal.returns-in-SqrtX
returns-in-SqrtX c = c.add_z_to_x.ensures ∙ sqrt_X_made prepare_bell _ _ _ c.in-SqrtX.is

pub returns-in-ControlledX : goal.returns-in-ControlledX
unfolding gate_with gate_named
returns-in-ControlledX c = c.controlled_x.ensures ∙ rw c.in-ControlledX.is

pub returns-in-ControlledZ : goal.returns-in-ControlledZ
unfolding gate_with gate_named
returns-in-ControlledZ c = c.controlled_z.ensures ∙ rw c.in-ControlledZ.is

pub returns-in-ControlledY : goal.returns-in-ControlledY
unfolding gate_with gate_named
returns-in-ControlledY c = c.controlled_y.ensures ∙ rw c.in-ControlledY.is

pub returns-in-Swap : goal.returns-in-Swap
unfolding gate_with gate_named
returns-in-Swap c = c.swap.ensures ∙ rw c.in-Swap.is

pub returns-in-PrepareBell : goal.returns-in-PrepareBell
unfolding gate_with gate_named prepare_bell
returns-in-PrepareBell c = c.controlled_x-in-PrepareBell.ensures ∙ rw (c.swap_parts-in-PrepareBell.ensures, c.in-PrepareBell.is)
