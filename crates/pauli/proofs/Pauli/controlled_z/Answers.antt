-- `pauli::Pauli::controlled_z` meets its contract.
use mathlib.Core.Path.{◌∙◌}
use Rattle.pauli.proofs.Laws.Changes.{controlled_z_added}
use Rattle.pauli.proofs.Pauli.controlled_z.Goals as goal

pub returns : goal.returns
returns c = c.add_at-2.ensures ∙ rw (c.add_at.ensures, c.has_x-at_b.ensures, c.has_x-at_a.ensures) (controlled_z_added _ _ _)
