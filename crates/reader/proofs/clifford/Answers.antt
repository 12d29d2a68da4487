-- `reader::clifford` meets its contract. Assumes nothing.
use mathlib.Core.Path.{refl, sym, ◌∙◌}
use Rattle.text.specs.Bytes.{bytes}
use Rattle.template.specs.Laws.Reading.{from_start, then_next, whole_read}
use Rattle.job.specs.Grammar.{forms}
use Rattle.reader.specs.declared.Form.TheVariants as form
use Rattle.reader.specs.Parsed.{place_of, form_of}
use Rattle.reader.specs.Laws.Sift.{no_values}
use Rattle.reader.specs.Laws.Tried.{stopped, not_ended, is_ended, form_room, says_nothing, words_wrong, words_right}
use Rattle.reader.proofs.clifford.Goals as goal

pub returns-in_err-q : goal.returns-in_err-q
unfolding place_of forms bytes
returns-in_err-q c = rw c.from_residual.ensures (stopped form.Clifford _ (from_start c.start.ensures c.in_err-q.ensures.read) refl)

pub returns-in_err-t : goal.returns-in_err-t
unfolding place_of forms bytes
returns-in_err-t c = rw c.from_residual-in_err-t.ensures (stopped form.Clifford _ (then_next (from_start c.start.ensures c.in_ok-q.ensures.read) c.in_err-t.ensures.read) refl)

pub returns-in_err-form : goal.returns-in_err-form
unfolding place_of forms bytes
returns-in_err-form c =
    let refused = (whole_read (then_next (from_start c.start.ensures c.in_ok-q.ensures.read) c.in_ok-t.ensures.read)).refused (not_ended _ _ c.in_err-form.ensures) (form_room form.Clifford) in
    rw c.from_residual-in_err-form.ensures (says_nothing form.Clifford (no_values (form_of form.Clifford) _ refused))

pub returns-then-not-words_fit : goal.returns-then-not-words_fit
unfolding place_of forms bytes
returns-then-not-words_fit c =
    let fits = rw (c.count.ensures, c.count-2.ensures) at c.words_fit.ensures in
    words_wrong ((whole_read (then_next (from_start c.start.ensures c.in_ok-q.ensures.read) c.in_ok-t.ensures.read)).read (is_ended _ _ _ c.in_ok-form.ensures).0) (sym fits ∙ c.if-not-words_fit.true)

pub returns : goal.returns
unfolding place_of forms bytes
returns c =
    let ended = is_ended _ _ _ c.in_ok-form.ensures in
    let fits = rw (c.count.ensures, c.count-2.ensures) at c.words_fit.ensures in
    rw ended.1 (words_right ((whole_read (then_next (from_start c.start.ensures c.in_ok-q.ensures.read) c.in_ok-t.ensures.read)).read ended.0) (sym fits ∙ c.if-not-words_fit.false))
