-- `lines_back::carry::measure_back` meets its contract. Assumes nothing.
use mathlib.Core.Path.{sym, ◌∙◌}
use Rattle.pauli.proofs.Laws.Group.{∗_identity, when_true, when_false}
use Rattle.job.specs.Line.{pauli_of}
use Rattle.lines_back.specs.Laws.Parts.{all_below_lem}
use Rattle.lines_back.proofs.carry.measure_back.Goals as goal

pub returns-then-not-has_outcome : goal.returns-then-not-has_outcome
returns-then-not-has_outcome c = let out = sym c.has_outcome.ensures ∙ c.if-not-has_outcome.true in rw (out, when_false) (sym (∗_identity _))

pub from_lists-requires : goal.from_lists-requires
from_lists-requires c = (all_below_lem c.requires.0, all_below_lem c.requires.1)

pub returns : goal.returns
unfolding pauli_of
returns c = let inside = sym c.has_outcome.ensures ∙ c.if-not-has_outcome.false in c.multiply.ensures ∙ rw (c.from_lists.ensures, inside, when_true)
