-- `pauli::Pauli::add_z_to_x` meets its contract.
use mathlib.Core.Path.{◌∙◌}
use Rattle.pauli.proofs.Laws.Changes.{z_added}
use Rattle.pauli.proofs.Pauli.add_z_to_x.Goals as goal

pub returns : goal.returns
returns c = c.add_at.ensures ∙ rw c.has_z.ensures (z_added _ _)
