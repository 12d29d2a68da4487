-- `check_lines::flip_number` meets its contract. Assumes nothing.
use native.Mathlib.Omega.{arith}
use mathlib.Core.Path.{sym, ◌∙◌}
use Rattle.check_values.specs.Laws.Lowest.{none_bad, fails, passes}
use Rattle.check_lines.specs.Laws.Lines.{tests_flip}
use Rattle.check_lines.proofs.flip_number.Goals as goal

pub returns-then-not-is_recorded : goal.returns-then-not-is_recorded
returns-then-not-is_recorded c =
    λ vs w h.
    let t = tests_flip c.args.c h in
    let id = c.number.ensures ∙ t.held.number 1 (omega arith) in
    fails 9 _ _ (rw id at (sym c.is_recorded.ensures ∙ c.if-not-is_recorded.true)) ∙ t.own

pub returns-then-not-has_shot : goal.returns-then-not-has_shot
returns-then-not-has_shot c =
    λ vs w h.
    let t = tests_flip c.args.c h in
    let id = c.number.ensures ∙ t.held.number 1 (omega arith) in
    let shot = c.number-2.ensures ∙ t.held.number 0 (omega arith) in
    fails 10 _ _ (rw shot at (sym c.has_shot.ensures ∙ c.if-not-has_shot.true)) ∙ passes 9 _ _ (rw id at (sym c.is_recorded.ensures ∙ c.if-not-is_recorded.false)) ∙ t.own

pub returns : goal.returns
returns c =
    λ vs w h.
    let t = tests_flip c.args.c h in
    let id = c.number.ensures ∙ t.held.number 1 (omega arith) in
    let shot = c.number-2.ensures ∙ t.held.number 0 (omega arith) in
    none_bad ∙ passes 10 _ _ (rw shot at (sym c.has_shot.ensures ∙ c.if-not-has_shot.false)) ∙ passes 9 _ _ (rw id at (sym c.is_recorded.ensures ∙ c.if-not-is_recorded.false)) ∙ t.own
