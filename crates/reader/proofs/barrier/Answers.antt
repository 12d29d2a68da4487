-- `reader::barrier` meets its contract. Assumes nothing.
use mathlib.Core.Path.{refl}
use Rattle.text.specs.Bytes.{bytes}
use Rattle.template.specs.Laws.Reading.{from_start}
use Rattle.job.specs.Grammar.{forms}
use Rattle.reader.specs.declared.Form.TheVariants as form
use Rattle.reader.specs.Parsed.{place_of}
use Rattle.reader.specs.Laws.Tried.{stopped, plain_tried, parts_form}
use Rattle.reader.proofs.barrier.Goals as goal

pub returns-in_err-q : goal.returns-in_err-q
unfolding place_of forms bytes
returns-in_err-q c = rw c.from_residual.ensures (stopped form.Barrier _ (from_start c.start.ensures c.in_err-q.ensures.read) refl)

pub returns : goal.returns
unfolding place_of forms bytes
returns c = plain_tried form.Barrier refl (λ vs. (_, refl)) (parts_form (from_start c.start.ensures c.in_ok-q.ensures.read) c.ended.ensures)
