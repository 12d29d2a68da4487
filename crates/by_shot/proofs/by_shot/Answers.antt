-- `by_shot::by_shot` meets its contract.
use mathlib.Core.Path.{sym, ◌∙◌}
use Rattle.by_shot.specs.Laws.Reply.{held_counts, shot_refused, shot_held}
use Rattle.by_shot.proofs.by_shot.Goals as goal

pub returns-then-not-may_hold : goal.returns-then-not-may_hold
returns-then-not-may_hold c = rw c.refused.ensures (shot_refused _ _ _ _ (sym c.may_hold.ensures ∙ c.if-not-may_hold.true))

pub rearrange-requires : goal.rearrange-requires
rearrange-requires c = held_counts _ _ (sym c.may_hold.ensures ∙ c.if-not-may_hold.false)

pub returns : goal.returns
returns c = shot_held _ _ _ _ (sym c.may_hold.ensures ∙ c.if-not-may_hold.false) ∙ c.rearrange.ensures
