-- `walker::walk` meets its contract. Assumes nothing.
use Rattle.std.proofs.Common.{lit<}
use mathlib.Core.Path.{sym, ◌∙◌}
use mathlib.Core.List.{[]}
use Rattle.walker.specs.Laws.Answers.{examined_refused, passes, examined_lines, examined_shot, examined_rising, examined_recorded, examined_below, examined_noise, examined_count}
use borrow.Author.Rules.{rules}
use Rattle.walker.proofs.walk.Goals.{then-header-shot-via-then-header-shot, then-header-shot-via-else-header-shot+then-not-is_rising, then-header-shot-via-else-header-shot+else-not-is_rising+then-not-all_below}
use Rattle.walker.proofs.walk.Goals as goal

pub returns-then-answer-ne0 : goal.returns-then-answer-ne0
returns-then-answer-ne0 c = c.refused.ensures ∙ examined_refused c.examine-found.ensures _ _ c.if-answer-ne0.true

pub set_of-outcomes-requires : goal.set_of-outcomes-requires
set_of-outcomes-requires c = (lit< tt, examined_below c.examine-found.ensures c.args.shot.0 _ c.if-answer-ne0.false (sym c.all_below.ensures ∙ c.if-not-all_below.false))

pub walk_lines-w-requires : goal.walk_lines-w-requires
walk_lines-w-requires c = (passes c.examine-found.ensures 0 [] c.if-answer-ne0.false, examined_lines c.examine-found.ensures 0 [] c.if-answer-ne0.false, search rules)

pub returns-then-header-shot : goal.returns-then-header-shot
returns-then-header-shot c =
    c.refused-then-header-shot.ensures
    ∙ (
    elim c.then-header-shot.branch [
      | then-header-shot-via-then-header-shot w ↦ examined_shot c.examine-found.ensures _ _ c.if-answer-ne0.false w.if-header-shot.true
      | then-header-shot-via-else-header-shot+then-not-is_rising w ↦
          examined_rising c.examine-found.ensures _ _ c.if-answer-ne0.false (sym w.is_rising.ensures ∙ w.if-not-is_rising.true)
      | then-header-shot-via-else-header-shot+else-not-is_rising+then-not-all_below w ↦
          examined_recorded c.examine-found.ensures c.args.shot.0 _ c.if-answer-ne0.false (sym w.all_below.ensures ∙ w.if-not-all_below.true)
    ]
    )

pub returns-in-Some : goal.returns-in-Some
returns-in-Some c = c.refused-in-Some.ensures ∙ examined_noise c.examine-found.ensures _ _ c.if-answer-ne0.false c.if-header-shot.false (sym c.is_rising.ensures ∙ c.if-not-is_rising.false) (sym c.all_below.ensures ∙ c.if-not-all_below.false) c.set_of-outcomes.ensures c.walk_lines-w.ensures c.in-Some.line c.in-Some.is

pub returns-in-None : goal.returns-in-None
returns-in-None c = examined_count c.examine-found.ensures _ _ c.if-answer-ne0.false c.if-header-shot.false (sym c.is_rising.ensures ∙ c.if-not-is_rising.false) (sym c.all_below.ensures ∙ c.if-not-all_below.false) c.set_of-outcomes.ensures c.walk_lines-w.ensures c.in-None.is
