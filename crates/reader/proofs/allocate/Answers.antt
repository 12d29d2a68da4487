-- `reader::allocate` meets its contract. Assumes nothing.
use mathlib.Core.Path.{refl}
use Rattle.text.specs.Bytes.{bytes}
use Rattle.template.specs.Laws.Reading.{from_start, then_next}
use Rattle.job.specs.Grammar.{forms}
use Rattle.reader.specs.declared.Form.TheVariants as form
use Rattle.reader.specs.Parsed.{place_of}
use Rattle.reader.specs.Laws.Tried.{stopped, plain_tried, parts_form}
use Rattle.reader.proofs.allocate.Goals as goal

pub returns-in_err-id : goal.returns-in_err-id
unfolding place_of forms bytes
returns-in_err-id c = rw c.from_residual.ensures (stopped form.Allocate _ (from_start c.start.ensures c.in_err-id.ensures.read) refl)

pub returns-in_err-angle : goal.returns-in_err-angle
unfolding place_of forms bytes
returns-in_err-angle c = rw c.from_residual-in_err-angle.ensures (stopped form.Allocate _ (then_next (from_start c.start.ensures c.in_ok-id.ensures.read) c.in_err-angle.ensures.read) refl)

pub returns : goal.returns
unfolding place_of forms bytes
returns c = plain_tried form.Allocate refl (λ vs. (_, refl)) (parts_form (then_next (from_start c.start.ensures c.in_ok-id.ensures.read) c.in_ok-angle.ensures.read) c.ended.ensures)
