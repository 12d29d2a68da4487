-- `reader::header` meets its contract. Assumes nothing.
use mathlib.Core.Path.{refl}
use Rattle.text.specs.Bytes.{bytes}
use Rattle.job.specs.Grammar.{forms}
use Rattle.reader.specs.declared.Form.TheVariants as form
use Rattle.reader.specs.Parsed.{place_of, form_of}
use Rattle.reader.specs.Laws.Sift.{no_values}
use Rattle.reader.specs.Laws.Tried.{form_room, says, later}
use Rattle.reader.proofs.header.Goals as goal

pub returns-then-read_all : goal.returns-then-read_all
unfolding place_of forms bytes
returns-then-read_all c = says form.Header refl (c.read_all.ensures.read c.if-read_all.true) _ refl

pub returns : goal.returns
unfolding place_of forms bytes
returns c =
    let refused = c.read_all.ensures.refused c.if-read_all.false (form_room form.Header) in
    later form.Header (no_values (form_of form.Header) _ refused) c.edition_header.ensures
