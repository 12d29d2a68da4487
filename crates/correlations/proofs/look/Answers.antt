-- `correlations::look` meets its contract. Assumes nothing.
use mathlib.Core.Path.{sym, ◌∙◌}
use Rattle.correlations.specs.Laws.Loops.{look_absent, look_new, look_same, look_other, new_fresh}
use native.Mathlib.Omega.{arith}
use Rattle.correlations.proofs.look.Goals as goal

pub returns-then-not-is_correlated : goal.returns-then-not-is_correlated
returns-then-not-is_correlated c = record { is = λ vs w s. look_absent s _ _ (sym (c.is_correlated.ensures vs w s) ∙ c.if-not-is_correlated.true); fresh = λ l e. cc }

pub returns-in_default : goal.returns-in_default
returns-in_default c =
    let unseen = c.place.ensures.unseen c.in_default.is in
    record { is = λ vs w s. rw c.member-correlation.ensures (look_new s _ _ _ (sym (c.is_correlated.ensures vs w s) ∙ c.if-not-is_correlated.false) c.size-size.ensures (rw c.member-correlation.ensures at unseen)); fresh = new_fresh _ unseen }

pub offset_bounds-sizes-i : goal.offset_bounds-sizes-i
offset_bounds-sizes-i c = omega (arith, (c.place.ensures.found _ c.in-Some.is).1, c.requires.0)

pub bounds-sizes-i : goal.bounds-sizes-i
bounds-sizes-i c = omega (arith, (c.place.ensures.found _ c.in-Some.is).1, c.requires.0)

pub returns-then-sizes-i : goal.returns-then-sizes-i
returns-then-sizes-i c =
    let (place, within) = c.place.ensures.found _ c.in-Some.is in
    record { is = λ vs w s. look_other s _ _ _ (sym (c.is_correlated.ensures vs w s) ∙ c.if-not-is_correlated.false) c.size-size.ensures (rw c.member-correlation.ensures at place) c.requires.0 within c.if-sizes-i.true; fresh = λ l e. cc }

pub returns : goal.returns
returns c =
    let (place, within) = c.place.ensures.found _ c.in-Some.is in
    record { is = λ vs w s. look_same s _ _ _ (sym (c.is_correlated.ensures vs w s) ∙ c.if-not-is_correlated.false) c.size-size.ensures (rw c.member-correlation.ensures at place) c.requires.0 within c.if-sizes-i.false; fresh = λ l e. cc }
