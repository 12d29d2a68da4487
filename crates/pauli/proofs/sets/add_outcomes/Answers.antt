-- `pauli::sets::add_outcomes` meets its contract.
use mathlib.Core.Path.{◌∙◌}
use Rattle.pauli.proofs.sets.add_outcomes.Goals as goal

pub returns : goal.returns
returns c = (c.add_set.ensures.0 ∙ c.requires.0, c.add_set.ensures.1 ∙ rw c.set_of-other.ensures)
