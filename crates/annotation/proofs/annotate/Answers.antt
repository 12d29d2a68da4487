-- `annotation::annotate` meets its contract. Assumes nothing.
use mathlib.Core.Bool.{not}
use mathlib.Core.Path.{sym, ap, ◌∙◌}
use Rattle.std.proofs.Common.{is_some}
use Rattle.job.specs.declared.Answer.{Answer}
use Rattle.check_values.specs.Laws.Floats.{only_some}
use Rattle.annotation.specs.Laws.Replies.{refused_reply, probability_reply, accepted_reply}
use Rattle.annotation.proofs.annotate.Goals as goal

pub returns-then-answer-ne0 : goal.returns-then-answer-ne0
returns-then-answer-ne0 c = rw c.refused.ensures (refused_reply _ _ _ c.check-answer.ensures c.if-answer-ne0.true)

pub returns-then-is_none : goal.returns-then-is_none
returns-then-is_none c = rw (c.refused-then-is_none-2.ensures, c.refused-then-is_none.ensures) (probability_reply _ _ _ (sym (ap (λ (a : Answer). a.number) c.check-answer.ensures) ∙ c.if-answer-ne0.false) (sym (only_some _ _) ∙ ap is_some (sym c.probability.ensures) ∙ c.is_none.ensures ∙ ap not c.if-is_none.true))

pub annotate_accepted-requires : goal.annotate_accepted-requires
annotate_accepted-requires c = sym (ap (λ (a : Answer). a.number) c.check-answer.ensures) ∙ c.if-answer-ne0.false

pub returns : goal.returns
returns c = accepted_reply _ _ _ (sym (ap (λ (a : Answer). a.number) c.check-answer.ensures) ∙ c.if-answer-ne0.false) (sym (only_some _ _) ∙ ap is_some (sym c.probability.ensures) ∙ c.is_none.ensures ∙ ap not c.if-is_none.false) c.annotate_accepted.ensures
