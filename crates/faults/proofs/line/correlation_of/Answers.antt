-- `faults::line::correlation_of` meets its contract.
use Rattle.faults.specs.Laws.Line.{correlation_none, correlation_some}
use mathlib.Core.Path.{sym, ◌∙◌}
use Rattle.faults.proofs.line.correlation_of.Goals as goal

pub returns-then-count-eq0 : goal.returns-then-count-eq0
returns-then-count-eq0 c = correlation_none _ (sym c.count.ensures ∙ c.if-count-eq0.true)

pub returns : goal.returns
returns c = correlation_some _ (λ e. c.if-count-eq0.false (c.count.ensures ∙ e)) c.member.ensures
