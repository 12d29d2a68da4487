-- `reader::exponential` meets its contract. Assumes nothing.
use mathlib.Core.Path.{refl}
use Rattle.text.specs.Bytes.{bytes}
use Rattle.template.specs.Laws.Reading.{from_start, then_next}
use Rattle.job.specs.Grammar.{forms}
use Rattle.reader.specs.declared.Form.TheVariants as form
use Rattle.reader.specs.Parsed.{place_of}
use Rattle.reader.specs.Tried.{pauli_part}
use Rattle.reader.specs.Laws.Tried.{stopped, plain_tried, parts_form}
use Rattle.reader.proofs.exponential.Goals as goal

pub returns-in_err-head : goal.returns-in_err-head
unfolding place_of forms bytes pauli_part
returns-in_err-head c = rw c.from_residual.ensures (stopped form.Exponential _ (from_start c.start.ensures (c.in_err-head.ensures.by_index c.args.fields.now)) refl)

pub returns-in_err-pauli : goal.returns-in_err-pauli
unfolding place_of forms bytes pauli_part
returns-in_err-pauli c = rw c.from_residual-in_err-pauli.ensures (stopped form.Exponential _ (then_next (from_start c.start.ensures (c.in_ok-head.ensures.by_index _)) c.in_err-pauli.ensures.read) refl)

pub returns : goal.returns
unfolding place_of forms bytes pauli_part
returns c = plain_tried form.Exponential refl (λ vs. (_, refl)) (parts_form (then_next (from_start c.start.ensures (c.in_ok-head.ensures.by_index _)) c.in_ok-pauli.ensures.read) c.ended.ensures)
