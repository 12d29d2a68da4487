-- `annotation::locations::locations` meets its contract. Assumes nothing.
use mathlib.Core.Path.{sym, ap, ◌∙◌}
use Rattle.job.specs.declared.Answer.{Answer}
use Rattle.annotation.specs.Laws.Counting.{refused_count, counted}
use Rattle.annotation.proofs.locations.locations.Goals as goal

pub returns-then-answer-ne0 : goal.returns-then-answer-ne0
returns-then-answer-ne0 c = refused_count _ c.check-answer.ensures c.if-answer-ne0.true

pub count-requires : goal.count-requires
count-requires c = sym (ap (λ (a : Answer). a.number) c.check-answer.ensures) ∙ c.if-answer-ne0.false

pub returns : goal.returns
returns c = counted _ (sym (ap (λ (a : Answer). a.number) c.check-answer.ensures) ∙ c.if-answer-ne0.false) c.count.ensures
