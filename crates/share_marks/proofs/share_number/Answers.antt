-- `share_marks::share_number` meets its contract. Assumes nothing.
use mathlib.Core.Path.{sym, ◌∙◌}
use borrow.Author.Tests.{not-true, not-false}
use Rattle.share_marks.proofs.Laws.Number.{by_marks, by_shares, by_caller, by_none}
use Rattle.share_marks.proofs.share_number.Goals as goal

pub returns-then-marks-shares : goal.returns-then-marks-shares
returns-then-marks-shares c = by_marks _ _ _ _ c.if-marks-shares.true

pub returns-then-not-shares_fit : goal.returns-then-not-shares_fit
returns-then-not-shares_fit c = by_shares _ _ _ _ c.if-marks-shares.false (sym (c.shares_fit.ensures _) ∙ c.if-not-shares_fit.true)

pub returns-then-shares-caller : goal.returns-then-shares-caller
returns-then-shares-caller c = by_caller _ _ _ _ c.if-marks-shares.false (sym (c.shares_fit.ensures _) ∙ c.if-not-shares_fit.false) c.if-shares-caller.true

pub returns : goal.returns
returns c = by_none _ _ _ _ c.if-marks-shares.false (sym (c.shares_fit.ensures _) ∙ c.if-not-shares_fit.false) c.if-shares-caller.false
