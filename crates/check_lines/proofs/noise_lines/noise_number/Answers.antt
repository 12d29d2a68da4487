-- `check_lines::noise_lines::noise_number` meets its contract. Assumes nothing.
use native.Mathlib.Omega.{arith}
use mathlib.Core.Bool.{not}
use mathlib.Core.Path.{sym, ap, ◌∙◌}
use Rattle.std.proofs.Common.{is_some}
use Rattle.check_values.specs.Laws.Floats.{only_some}
use Rattle.check_values.specs.Laws.Lowest.{none_bad, fails, passes, one_below}
use Rattle.check_values.specs.Contexts.{context_of}
use Rattle.check_lines.proofs.noise_lines.noise_number.Goals as goal

pub returns-then-not-below : goal.returns-then-not-below
unfolding context_of
returns-then-not-below c = λ numbers lists vs h m g.
    let known = c.below.ensures numbers lists vs h (omega arith) ∙ one_below vs 1 _ in
    fails 9 _ _ (sym known ∙ c.if-not-below.true)

pub returns-then-is_none : goal.returns-then-is_none
unfolding context_of
returns-then-is_none c = λ numbers lists vs h m g.
    let known = c.below.ensures numbers lists vs h (omega arith) ∙ one_below vs 1 _ in
    let p = c.number.ensures ∙ h.number 0 m in
    let right = sym (only_some _ _) ∙ ap is_some (sym c.probability.ensures) ∙ c.is_none.ensures ∙ ap not c.if-is_none.true in
    fails 11 _ _ (rw p at right) ∙ passes 9 _ _ (sym known ∙ c.if-not-below.false)

pub returns : goal.returns
unfolding context_of
returns c = λ numbers lists vs h m g.
    let known = c.below.ensures numbers lists vs h (omega arith) ∙ one_below vs 1 _ in
    let p = c.number.ensures ∙ h.number 0 m in
    let right = sym (only_some _ _) ∙ ap is_some (sym c.probability.ensures) ∙ c.is_none.ensures ∙ ap not c.if-is_none.false in
    none_bad ∙ passes 11 _ _ (rw p at right) ∙ passes 9 _ _ (sym known ∙ c.if-not-below.false)
