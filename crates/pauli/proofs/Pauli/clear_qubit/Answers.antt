-- `pauli::Pauli::clear_qubit` meets its contract.
use mathlib.Core.Path.{◌∙◌}
use Rattle.pauli.proofs.Laws.Changes.{clear_added}
use Rattle.pauli.proofs.Pauli.clear_qubit.Goals as goal

pub returns : goal.returns
returns c = c.add_at.ensures ∙ rw (c.has_z.ensures, c.has_x.ensures) (clear_added _ _)
