-- `needed_words::run_needed` meets its contract. Assumes nothing.
use Rattle.needed_words.specs.Laws.Needed.{holds_cleared, totals_cleared, rows_for, run_finished, run_stopped}
use Rattle.draws.specs.Execute.{starts}
use mathlib.Core.Path.{refl, ◌∙◌}
use Rattle.needed_words.proofs.run_needed.Goals as goal

pub execute-r-requires : goal.execute-r-requires
execute-r-requires c =
    let ready = c.requires in
    let cleared = c.clear_all.ensures in
    let kept = c.clear_all.auto in
    ((_, ready.ahead), rows_for ready kept.x kept.z kept.deltas, totals_cleared ready cleared.2 cleared.3)

pub returns-then-answer-eq0 : goal.returns-then-answer-eq0
returns-then-answer-eq0 c =
    let ready = c.requires in
    let cleared = c.clear_all.ensures in
    let kept = c.clear_all.auto in
    let executes = c.execute-r.ensures in
    let kept2 = c.execute-r.auto in
    run_finished ready _ refl (executes.0.by starts (holds_cleared ready cleared.0 cleared.1 cleared.2)) executes.0.within executes.0.leaves executes.1
    (kept2.x ∙ kept.x)
    (kept2.z ∙ kept.z)
    (kept2.deltas ∙ kept.deltas)
    (λ i. (c.type_inv.x i).fits)
    (λ i. (c.type_inv.z i).fits)
    (λ i. (c.type_inv.deltas i).fits)
    c.if-answer-eq0.true

pub shape_of-x : goal.shape_of-x
shape_of-x c = c.clear_all-2.auto.x ∙ (c.execute-r.auto.x ∙ c.clear_all.auto.x)

pub shape_of-z : goal.shape_of-z
shape_of-z c = c.clear_all-2.auto.z ∙ (c.execute-r.auto.z ∙ c.clear_all.auto.z)

pub shape_of-deltas : goal.shape_of-deltas
shape_of-deltas c = c.clear_all-2.auto.deltas ∙ (c.execute-r.auto.deltas ∙ c.clear_all.auto.deltas)

pub shape_of-totals : goal.shape_of-totals
shape_of-totals c = c.clear_all-2.auto.totals ∙ (c.execute-r.auto.totals ∙ c.clear_all.auto.totals)

pub returns : goal.returns
returns c =
    let ready = c.requires in
    let cleared = c.clear_all.ensures in
    let kept = c.clear_all.auto in
    let executes = c.execute-r.ensures in
    let kept2 = c.execute-r.auto in
    let again = c.clear_all-2.ensures in
    run_stopped ready _ refl (executes.0.by starts (holds_cleared ready cleared.0 cleared.1 cleared.2)) executes.0.within executes.0.leaves executes.1
    (kept2.x ∙ kept.x)
    (kept2.z ∙ kept.z)
    (kept2.deltas ∙ kept.deltas)
    again.0
    again.1
    again.2
    again.3
    c.if-answer-eq0.false
