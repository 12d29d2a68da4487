-- `reader::weighted` meets its contract. Assumes nothing.
use mathlib.Core.Path.{refl}
use Rattle.text.specs.Bytes.{bytes}
use Rattle.template.specs.Laws.Reading.{then_next}
use Rattle.job.specs.Grammar.{forms}
use Rattle.reader.specs.declared.Form.TheVariants as form
use Rattle.reader.specs.Parsed.{place_of}
use Rattle.reader.specs.Tried.{noise_begin_of}
use Rattle.reader.specs.Laws.Noise.{table_form_of, weighted, kind_tried, kind_parts, kind_stopped}
use Rattle.reader.proofs.weighted.Goals as goal

pub returns-in_err-n : goal.returns-in_err-n
unfolding place_of forms bytes noise_begin_of table_form_of
returns-in_err-n c = rw c.from_residual.ensures (kind_stopped form.Weighted weighted refl refl c.requires.0 _ c.in_err-n.ensures.read refl)

pub returns-in_err-size : goal.returns-in_err-size
unfolding place_of forms bytes noise_begin_of table_form_of
returns-in_err-size c = rw c.from_residual-in_err-size.ensures (kind_stopped form.Weighted weighted refl refl c.requires.0 _ (then_next c.in_ok-n.ensures.read c.in_err-size.ensures.read) refl)

pub returns : goal.returns
unfolding place_of forms bytes noise_begin_of table_form_of
returns c = kind_tried form.Weighted weighted refl refl c.requires.0 (kind_parts (then_next c.in_ok-n.ensures.read c.in_ok-size.ensures.read) c.ended.ensures)
