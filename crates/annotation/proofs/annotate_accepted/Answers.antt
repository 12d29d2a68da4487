-- `annotation::annotate_accepted` meets its contract. Assumes nothing.
use mathlib.Core.Path.{sym, ◌∙◌}
use Rattle.annotation.specs.Laws.Replies.{unfit_reply, long_reply, whole_reply}
use Rattle.annotation.proofs.annotate_accepted.Goals as goal

pub returns-in-Err : goal.returns-in-Err
returns-in-Err c = rw c.refused.ensures (unfit_reply _ c.in-Err.ensures c.put_annotated.auto.out)

pub returns-then-not-text_fits : goal.returns-then-not-text_fits
returns-then-not-text_fits c = rw c.refused-then-not-text_fits.ensures (long_reply _ c.in-Ok.ensures c.put_annotated.auto.out (sym c.text_fits.ensures ∙ c.if-not-text_fits.true))

pub returns : goal.returns
returns c = whole_reply _ c.in-Ok.ensures c.put_annotated.auto.out (sym c.text_fits.ensures ∙ c.if-not-text_fits.false) c.put_annotated-2.ensures
