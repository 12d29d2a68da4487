-- `reader::unitary` meets its contract. Assumes nothing.
use native.Mathlib.Omega.{arith}
use mathlib.Core.Path.{refl}
use Rattle.text.specs.Bytes.{bytes}
use Rattle.template.specs.Laws.Reading.{from_start, then_next, whole_read}
use Rattle.job.specs.Grammar.{forms}
use Rattle.reader.specs.declared.Form.TheVariants as form
use Rattle.reader.specs.Parsed.{place_of, form_of}
use Rattle.reader.specs.Laws.Sift.{no_values}
use Rattle.reader.specs.Laws.Tried.{stopped, not_ended, is_ended, form_room, says_nothing, gate_high, gate_good}
use Rattle.reader.proofs.unitary.Goals as goal

pub returns-in_err-g : goal.returns-in_err-g
unfolding place_of forms bytes
returns-in_err-g c = rw c.from_residual.ensures (stopped form.Unitary _ (from_start c.start.ensures c.in_err-g.ensures.read) refl)

pub returns-in_err-q : goal.returns-in_err-q
unfolding place_of forms bytes
returns-in_err-q c = rw c.from_residual-in_err-q.ensures (stopped form.Unitary _ (then_next (from_start c.start.ensures c.in_ok-g.ensures.read) c.in_err-q.ensures.read) refl)

pub returns-in_err-form : goal.returns-in_err-form
unfolding place_of forms bytes
returns-in_err-form c =
    let refused = (whole_read (then_next (from_start c.start.ensures c.in_ok-g.ensures.read) c.in_ok-q.ensures.read)).refused (not_ended _ _ c.in_err-form.ensures) (form_room form.Unitary) in
    rw c.from_residual-in_err-form.ensures (says_nothing form.Unitary (no_values (form_of form.Unitary) _ refused))

pub number-requires : goal.number-requires
number-requires c = omega arith

pub returns-then-number-gt-LAST_GATE : goal.returns-then-number-gt-LAST_GATE
unfolding place_of forms bytes
returns-then-number-gt-LAST_GATE c =
    gate_high ((whole_read (then_next (from_start c.start.ensures c.in_ok-g.ensures.read) c.in_ok-q.ensures.read)).read (is_ended _ _ _ c.in_ok-form.ensures).0) (omega (arith, c.number.ensures, c.if-number-gt-LAST_GATE.true))

pub returns : goal.returns
unfolding place_of forms bytes
returns c =
    let ended = is_ended _ _ _ c.in_ok-form.ensures in
    rw ended.1 (gate_good ((whole_read (then_next (from_start c.start.ensures c.in_ok-g.ensures.read) c.in_ok-q.ensures.read)).read ended.0) (omega (arith, c.number.ensures, c.if-number-gt-LAST_GATE.false)))
