-- `reader::noise_kind` meets its contract. Assumes nothing.
use mathlib.Core.Path.{refl, sym, ◌∙◌}
use mathlib.Core.List.{[]}
use borrow.Author.Tests.{ne_eqb}
use Rattle.text.specs.Bytes.{bytes}
use Rattle.job.specs.Grammar.{forms}
use Rattle.reader.specs.declared.Form.TheVariants as form
use Rattle.reader.specs.Parsed.{place_of}
use Rattle.reader.specs.Tried.{noise_begin_of, only}
use Rattle.reader.specs.Laws.Sift.{sift, forms_of}
use Rattle.reader.specs.Laws.Tried.{none_left}
use Rattle.reader.specs.Laws.Noise.{table_form_of, of_digit}
use mathlib.Core.List.{[]}
use Rattle.reader.proofs.noise_kind.Goals as goal

pub single-requires : goal.single-requires
single-requires c = (c.requires.0, c.requires.2)

pub depolarizing-requires : goal.depolarizing-requires
depolarizing-requires c = (c.requires.0, c.requires.2)

pub uniform-requires : goal.uniform-requires
uniform-requires c = (c.requires.0, c.requires.2)

pub weighted-requires : goal.weighted-requires
weighted-requires c = (c.requires.0, c.requires.2)

pub returns-in-49 : goal.returns-in-49
unfolding sift forms_of table_form_of noise_begin_of place_of forms bytes
returns-in-49 c =
    let pre = c.requires in
    of_digit pre.0.begins 49 (sym c.in-49.is ∙ pre.1) (only form.Single) refl c.single.ensures

pub returns-in-50 : goal.returns-in-50
unfolding sift forms_of table_form_of noise_begin_of place_of forms bytes
returns-in-50 c =
    let pre = c.requires in
    of_digit pre.0.begins 50 (sym c.in-50.is ∙ pre.1) (only form.Depolarizing) refl c.depolarizing.ensures

pub returns-in-51 : goal.returns-in-51
unfolding sift forms_of table_form_of noise_begin_of place_of forms bytes
returns-in-51 c =
    let pre = c.requires in
    of_digit pre.0.begins 51 (sym c.in-51.is ∙ pre.1) (only form.Uniform) refl c.uniform.ensures

pub returns-in-52 : goal.returns-in-52
unfolding sift forms_of table_form_of noise_begin_of place_of forms bytes
returns-in-52 c =
    let pre = c.requires in
    of_digit pre.0.begins 52 (sym c.in-52.is ∙ pre.1) (only form.Weighted) refl c.weighted.ensures

pub returns-in_default : goal.returns-in_default
unfolding sift forms_of table_form_of noise_begin_of place_of forms bytes
returns-in_default c =
    let pre = c.requires in
    let others = c.in_default.in_default-own.rest in
    of_digit pre.0.begins _ pre.1 [] (simp (ne_eqb _ _ others.1, ne_eqb _ _ others.0.1, ne_eqb _ _ others.0.0.1, ne_eqb _ _ others.0.0.0.1)) none_left
