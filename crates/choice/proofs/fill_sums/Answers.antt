-- `choice::fill_sums` meets its contract: the total is the one that the weighted kind carries.
use mathlib.Core.Path.{ap, ◌∙◌}
use Rattle.choice.specs.Choice.{marked_by}
use Rattle.choice.proofs.fill_sums.Goals as goal

pub running_sums-requires : goal.running_sums-requires
running_sums-requires c = let t = c.requires.1.is _ c.in-Weighted.is in (t.0, c.requires.0, t.1)

pub mark_sums-requires : goal.mark_sums-requires
mark_sums-requires c = c.running_sums.auto.sums ∙ c.requires.0

pub shape_of-sums : goal.shape_of-sums
shape_of-sums c = c.mark_sums.auto.sums ∙ c.running_sums.auto.sums

pub returns-in-Weighted : goal.returns-in-Weighted
returns-in-Weighted c = record { is = λ t e. c.mark_sums.ensures ∙ ap (marked_by c.args.weights.now) c.running_sums.ensures }

pub returns-in_default : goal.returns-in_default
returns-in_default c = record { is = λ t e. absurd (c.in_default.not-Weighted t e) }
