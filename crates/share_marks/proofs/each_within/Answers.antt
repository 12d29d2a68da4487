use native.Mathlib.Omega.{arith}
use mathlib.Core.Path.{refl, sym, ◌∙◌}
use Rattle.share_marks.proofs.Laws.Sums.{within_here, within_next, within_end}
use Rattle.share_marks.proofs.each_within.Goals as goal

pub loop-caller-init : goal.loop-caller-init
loop-caller-init c = refl

pub offset_bounds-shares-caller : goal.offset_bounds-shares-caller
offset_bounds-shares-caller c = omega arith

pub bounds-shares-caller : goal.bounds-shares-caller
bounds-shares-caller c = omega arith

pub offset_bounds-marks-caller : goal.offset_bounds-marks-caller
offset_bounds-marks-caller c = omega arith

pub bounds-marks-caller : goal.bounds-marks-caller
bounds-marks-caller c = omega arith

pub returns-then-shares-caller : goal.returns-then-shares-caller
returns-then-shares-caller c = sym (c.loop-caller.invariant ∙ within_here _ _ _ c.requires c.loop-caller-test.true c.if-shares-caller.true)

pub loop-caller-preserved : goal.loop-caller-preserved
loop-caller-preserved c =
    c.loop-caller.invariant ∙ within_next _ _ _ c.requires c.loop-caller-test.true c.if-shares-caller.false

pub returns : goal.returns
returns c = sym (c.loop-caller.invariant ∙ within_end _ _ _ c.requires c.loop-caller-test.false)
