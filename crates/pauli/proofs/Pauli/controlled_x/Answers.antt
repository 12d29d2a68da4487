-- `pauli::Pauli::controlled_x` meets its contract.
use mathlib.Core.Path.{◌∙◌}
use Rattle.pauli.proofs.Laws.Changes.{controlled_x_added}
use Rattle.pauli.proofs.Pauli.controlled_x.Goals as goal

pub returns : goal.returns
returns c = c.add_at-2.ensures ∙ rw (c.add_at.ensures, c.has_z-z.ensures, c.has_x-x.ensures) (controlled_x_added _ _ _)
