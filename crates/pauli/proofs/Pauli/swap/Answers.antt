-- `pauli::Pauli::swap` meets its contract.
use mathlib.Core.Path.{◌∙◌}
use Rattle.pauli.proofs.Laws.Changes.{swap_rows_added}
use Rattle.pauli.proofs.Laws.Set.{differ_⊕}
use Rattle.pauli.proofs.Pauli.swap.Goals as goal

pub returns : goal.returns
returns c = c.add_at-2.ensures ∙ rw (c.add_at.ensures, differ_⊕, differ_⊕, c.has_z-2.ensures, c.has_z.ensures, c.has_x-2.ensures, c.has_x.ensures) (swap_rows_added _ _ _)
