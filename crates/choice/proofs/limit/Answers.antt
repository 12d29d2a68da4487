-- `choice::limit` meets its contract.
use mathlib.Core.Path.{sym, ap, ◌∙◌}
use native.Mathlib.Nat.{mod-le}
use Rattle.draws.specs.Draws.{limit_of}
use Rattle.choice.specs.Laws.Choice.{limit_none}
use Rattle.choice.proofs.limit.Goals as goal

pub returns-then-bound-eq0 : goal.returns-then-bound-eq0
returns-then-bound-eq0 c = limit_none ∙ ap limit_of (sym c.if-bound-eq0.true)

pub overflow_sub-result : goal.overflow_sub-result
overflow_sub-result c = mod-le _ _
