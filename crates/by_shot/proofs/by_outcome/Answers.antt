-- `by_shot::by_outcome` meets its contract.
use mathlib.Core.Path.{sym, ◌∙◌}
use Rattle.by_shot.specs.Laws.Reply.{held_counts, outcome_refused, outcome_held}
use Rattle.by_shot.proofs.by_outcome.Goals as goal

pub returns-then-not-may_hold : goal.returns-then-not-may_hold
returns-then-not-may_hold c = rw c.refused.ensures (outcome_refused _ _ _ _ (sym c.may_hold.ensures ∙ c.if-not-may_hold.true))

pub rearrange-requires : goal.rearrange-requires
rearrange-requires c = let counts = held_counts _ _ (sym c.may_hold.ensures ∙ c.if-not-may_hold.false) in (counts.1, counts.0)

pub returns : goal.returns
returns c = outcome_held _ _ _ _ (sym c.may_hold.ensures ∙ c.if-not-may_hold.false) ∙ c.rearrange.ensures
