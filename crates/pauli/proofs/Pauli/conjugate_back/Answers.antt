-- `pauli::Pauli::conjugate_back` meets its contract.
use mathlib.Core.Path.{◌∙◌}
use Rattle.pauli.specs.Code.{by_gate, named_or_none}
use Rattle.pauli.proofs.Pauli.conjugate_back.Goals as goal

pub returns-in-Some : goal.returns-in-Some
unfolding by_gate named_or_none
returns-in-Some c = c.conjugate_back_by_gate.ensures ∙ rw (← c.from_code.ensures, c.in-Some.is)

pub returns-in-None : goal.returns-in-None
unfolding by_gate named_or_none
returns-in-None c = rw (← c.from_code.ensures, c.in-None.is)
