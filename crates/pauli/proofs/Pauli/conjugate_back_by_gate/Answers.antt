-- `pauli::Pauli::conjugate_back_by_gate` meets its contract.
use mathlib.Core.Path.{◌∙◌}
use Rattle.pauli.specs.Gate.{gate_with, prepare_bell, prepare_bell_back}
use Rattle.pauli.specs.Code.{gate_named}
use Rattle.pauli.proofs.Laws.Code.{alike}
use Rattle.pauli.proofs.Pauli.conjugate_back_by_gate.Goals as goal

pub returns-in-PrepareBell : goal.returns-in-PrepareBell
unfolding gate_with gate_named prepare_bell_back
returns-in-PrepareBell c = c.swap_parts.ensures ∙ rw (c.controlled_x.ensures, c.in-PrepareBell.is)

pub returns-in_default : goal.returns-in_default
returns-in_default c = c.conjugate_by_gate.ensures ∙ alike prepare_bell prepare_bell_back _ _ _ _ c.in_default.not-PrepareBell
