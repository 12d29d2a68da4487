-- `pauli::Pauli::swap_parts` meets its contract.
use mathlib.Core.Path.{◌∙◌}
use Rattle.pauli.proofs.Laws.Changes.{swap_added}
use Rattle.pauli.proofs.Laws.Set.{differ_⊕}
use Rattle.pauli.proofs.Pauli.swap_parts.Goals as goal

pub returns : goal.returns
returns c = c.add_at.ensures ∙ rw (differ_⊕, c.has_z.ensures, c.has_x.ensures) (swap_added _ _)
