-- `lines_back::carry::exponential_back` meets its contract. Assumes nothing.
use mathlib.Core.Path.{◌∙◌}
use Rattle.job.specs.Line.{pauli_of}
use Rattle.frames.specs.Forward.{exponentiate}
use Rattle.lines_back.specs.Laws.Parts.{all_below_lem}
use Rattle.lines_back.proofs.carry.exponential_back.Goals as goal

pub from_lists-p-requires : goal.from_lists-p-requires
from_lists-p-requires c = (all_below_lem c.requires.0, all_below_lem c.requires.1)

pub returns : goal.returns
unfolding pauli_of exponentiate
returns c = c.multiply_if.ensures ∙ rw (c.anticommutes.ensures, c.from_lists-p.ensures)
