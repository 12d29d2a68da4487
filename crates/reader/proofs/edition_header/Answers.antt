-- `reader::edition_header` meets its contract. Assumes nothing.
use mathlib.Core.Path.{refl}
use Rattle.text.specs.Bytes.{bytes}
use Rattle.job.specs.Grammar.{forms}
use Rattle.reader.specs.declared.Form.TheVariants as form
use Rattle.reader.specs.Parsed.{place_of}
use Rattle.reader.specs.Laws.Tried.{plain_tried}
use Rattle.reader.proofs.edition_header.Goals as goal

pub returns : goal.returns
unfolding place_of forms bytes
returns c = plain_tried form.EditionHeader refl (λ vs. (_, refl)) c.form_by.ensures
