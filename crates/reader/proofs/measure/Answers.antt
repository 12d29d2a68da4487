-- `reader::measure` meets its contract. Assumes nothing.
use mathlib.Core.Path.{refl}
use Rattle.text.specs.Bytes.{bytes}
use Rattle.template.specs.Laws.Reading.{from_start, then_next}
use Rattle.job.specs.Grammar.{forms}
use Rattle.reader.specs.declared.Form.TheVariants as form
use Rattle.reader.specs.Parsed.{place_of}
use Rattle.reader.specs.Laws.Tried.{stopped, plain_tried, parts_form}
use Rattle.reader.proofs.measure.Goals as goal

pub returns-in_err-x : goal.returns-in_err-x
unfolding place_of forms bytes
returns-in_err-x c = rw c.from_residual.ensures (stopped form.Measure _ (from_start c.start.ensures c.in_err-x.ensures.read) refl)

pub returns-in_err-z : goal.returns-in_err-z
unfolding place_of forms bytes
returns-in_err-z c = rw c.from_residual-in_err-z.ensures (stopped form.Measure _ (then_next (from_start c.start.ensures c.in_ok-x.ensures.read) c.in_err-z.ensures.read) refl)

pub returns-in_err-id : goal.returns-in_err-id
unfolding place_of forms bytes
returns-in_err-id c = rw c.from_residual-in_err-id.ensures (stopped form.Measure _ (then_next (then_next (from_start c.start.ensures c.in_ok-x.ensures.read) c.in_ok-z.ensures.read) c.in_err-id.ensures.read) refl)

pub returns : goal.returns
unfolding place_of forms bytes
returns c = plain_tried form.Measure refl (λ vs. (_, refl)) (parts_form (then_next (then_next (from_start c.start.ensures c.in_ok-x.ensures.read) c.in_ok-z.ensures.read) c.in_ok-id.ensures.read) c.ended.ensures)
