-- `lines_back::carry::conditional_back` meets its contract. Assumes nothing.
use mathlib.Core.Path.{sym, ◌∙◌}
use Rattle.job.specs.Line.{pauli_of}
use Rattle.lines_back.specs.Laws.Parts.{none_added, all_added, all_below_lem}
use Rattle.lines_back.proofs.carry.conditional_back.Goals as goal

pub from_lists-requires : goal.from_lists-requires
from_lists-requires c = (all_below_lem c.requires.1, all_below_lem c.requires.2)

pub returns-then-not-anticommutes : goal.returns-then-not-anticommutes
unfolding pauli_of
returns-then-not-anticommutes c = let commutes = rw c.from_lists.ensures at (sym c.anticommutes.ensures ∙ c.if-not-anticommutes.true) in (c.requires.0, rw commutes (none_added _ _))

pub add_outcomes-requires : goal.add_outcomes-requires
add_outcomes-requires c = (c.requires.0, all_below_lem c.requires.3)

pub returns : goal.returns
unfolding pauli_of
returns c = let clashes = rw c.from_lists.ensures at (sym c.anticommutes.ensures ∙ c.if-not-anticommutes.false) in (c.add_outcomes.ensures.0, c.add_outcomes.ensures.1 ∙ rw clashes (all_added _ _))
