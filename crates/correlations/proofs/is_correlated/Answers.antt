-- `correlations::is_correlated` meets its contract. Assumes nothing.
use mathlib.Core.Path.{sym, ap, ◌∙◌}
use Rattle.correlations.specs.Sizes.{present}
use Rattle.correlations.specs.Laws.Sizes.{quiet_none, present_noise}
use Rattle.correlations.proofs.is_correlated.Goals as goal

pub returns-then-not-is_noise : goal.returns-then-not-is_noise
unfolding present
returns-then-not-is_noise c = λ vs w s. sym (ap present (quiet_none _ vs w (sym c.is_noise.ensures ∙ c.if-not-is_noise.true) s.says))

pub returns : goal.returns
returns c = λ vs w s. rw c.count.ensures (present_noise (sym c.is_noise.ensures ∙ c.if-not-is_noise.false) s)
