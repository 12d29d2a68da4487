-- `pauli::Pauli::add_x_to_z` meets its contract.
use mathlib.Core.Path.{◌∙◌}
use Rattle.pauli.proofs.Laws.Changes.{x_added}
use Rattle.pauli.proofs.Pauli.add_x_to_z.Goals as goal

pub returns : goal.returns
returns c = c.add_at.ensures ∙ rw c.has_x.ensures (x_added _ _)
