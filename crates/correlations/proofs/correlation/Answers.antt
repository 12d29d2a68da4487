-- `correlations::correlation` meets its contract. Assumes nothing.
use mathlib.Core.Path.{sym, ap, ◌∙◌}
use Rattle.job.specs.declared.Answer.{Answer}
use Rattle.correlations.specs.Laws.Loops.{refused_reply, agreed_reply, differing_reply}
use Rattle.correlations.proofs.correlation.Goals as goal

pub returns-then-answer-ne0 : goal.returns-then-answer-ne0
returns-then-answer-ne0 c = refused_reply _ c.check-answer.ensures c.if-answer-ne0.true

pub first_differing-requires : goal.first_differing-requires
first_differing-requires c = sym (ap (λ (a : Answer). a.number) c.check-answer.ensures) ∙ c.if-answer-ne0.false

pub returns-in-None : goal.returns-in-None
returns-in-None c = agreed_reply _ (sym (ap (λ (a : Answer). a.number) c.check-answer.ensures) ∙ c.if-answer-ne0.false) c.first_differing.ensures c.in-None.is

pub returns-in-Some : goal.returns-in-Some
returns-in-Some c = differing_reply _ (sym (ap (λ (a : Answer). a.number) c.check-answer.ensures) ∙ c.if-answer-ne0.false) c.first_differing.ensures c.in-Some.is
