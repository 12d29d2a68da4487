-- `lines_back::carry::controlled_back` meets its contract. Assumes nothing.
use mathlib.Core.Path.{◌∙◌}
use Rattle.job.specs.Line.{pauli_of}
use Rattle.frames.specs.Forward.{controlled_pauli}
use Rattle.lines_back.specs.Laws.Parts.{all_below_lem}
use Rattle.lines_back.proofs.carry.controlled_back.Goals as goal

pub from_lists-control-requires : goal.from_lists-control-requires
from_lists-control-requires c = (all_below_lem c.requires.0, all_below_lem c.requires.1)

pub from_lists-target-requires : goal.from_lists-target-requires
from_lists-target-requires c = (all_below_lem c.requires.2, all_below_lem c.requires.3)

pub returns : goal.returns
unfolding pauli_of controlled_pauli
returns c = c.multiply_if.ensures ∙ rw (c.anticommutes-2.ensures, c.multiply_if-r.ensures, c.anticommutes.ensures, c.from_lists-target.ensures, c.from_lists-control.ensures)
