-- `pauli::Pauli::controlled_y` meets its contract.
use mathlib.Core.Path.{◌∙◌}
use Rattle.pauli.proofs.Laws.Changes.{controlled_y_added}
use Rattle.pauli.proofs.Laws.Set.{differ_⊕}
use Rattle.pauli.proofs.Pauli.controlled_y.Goals as goal

pub returns : goal.returns
returns c = c.add_at-2.ensures ∙ rw (c.add_at.ensures, differ_⊕, c.has_z.ensures, c.has_x.ensures, c.has_x-x.ensures) (controlled_y_added _ _ _)
