-- `lines_back::carry::injection_counts` meets its contract. Assumes nothing.
use mathlib.Core.Path.{◌∙◌}
use Rattle.job.specs.Line.{pauli_of}
use Rattle.lines_back.specs.Laws.Parts.{all_below_lem}
use Rattle.lines_back.proofs.carry.injection_counts.Goals as goal

pub from_lists-requires : goal.from_lists-requires
from_lists-requires c = (all_below_lem c.requires.0, all_below_lem c.requires.1)

pub returns : goal.returns
unfolding pauli_of
returns c = c.anticommutes.ensures ∙ rw c.from_lists.ensures
