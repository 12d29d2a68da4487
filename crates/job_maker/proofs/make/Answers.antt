-- `job_maker::make` meets its contract. Assumes nothing.
use mathlib.Core.Path.{sym, ◌∙◌}
use Rattle.job_maker.specs.Laws.Replies.{header_range, job_is, unheld_reply, unseeded_reply, long_reply, whole_reply}
use Rattle.job_maker.proofs.make.Goals as goal

pub returns-then-not-may_hold : goal.returns-then-not-may_hold
returns-then-not-may_hold c = rw c.no.ensures (unheld_reply _ _ _ _ _ _ (sym c.may_hold.ensures ∙ c.if-not-may_hold.true))

pub returns-then-seed-eq0 : goal.returns-then-seed-eq0
returns-then-seed-eq0 c = rw c.no-then-seed-eq0.ensures (unseeded_reply _ _ _ _ _ _ (sym c.may_hold.ensures ∙ c.if-not-may_hold.false) c.if-seed-eq0.true)

pub put_job-length-requires : goal.put_job-length-requires
put_job-length-requires c = header_range _ _ _ _ c.step-state.ensures (sym c.may_hold.ensures ∙ c.if-not-may_hold.false)

pub returns-then-not-text_fits : goal.returns-then-not-text_fits
returns-then-not-text_fits c = rw c.no-then-not-text_fits.ensures (long_reply _ _ _ _ _ _ (sym c.may_hold.ensures ∙ c.if-not-may_hold.false) c.if-seed-eq0.false (job_is _ _ _ _ c.step-state.ensures c.put_job-length.ensures) c.put_job-length.auto.out (sym c.text_fits.ensures ∙ c.if-not-text_fits.true))

pub put_job-requires : goal.put_job-requires
put_job-requires c = header_range _ _ _ _ c.step-state.ensures (sym c.may_hold.ensures ∙ c.if-not-may_hold.false)

pub returns : goal.returns
returns c = whole_reply _ _ _ _ _ _ (sym c.may_hold.ensures ∙ c.if-not-may_hold.false) c.if-seed-eq0.false (job_is _ _ _ _ c.step-state.ensures c.put_job-length.ensures) c.put_job-length.auto.out (sym c.text_fits.ensures ∙ c.if-not-text_fits.false) (job_is _ _ _ _ c.step-state.ensures c.put_job.ensures)
