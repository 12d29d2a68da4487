use Rattle.check_values.specs.Laws.Pairs.{every_all, every_none, every_more, every_fails}
use native.Mathlib.Omega.{arith}
use mathlib.Core.Path.{sym, ◌∙◌}
use Rattle.check_values.proofs.clifford.rows_fit.Goals as goal

pub loop-r-init : goal.loop-r-init
loop-r-init c = (omega arith, λ t i. every_none _)

pub overflow_mul-r-end : goal.overflow_mul-r-end
overflow_mul-r-end c = omega arith

pub row_fits-requires : goal.row_fits-requires
row_fits-requires c = (omega arith, omega arith, omega arith)

pub returns-then-not-row_fits : goal.returns-then-not-row_fits
returns-then-not-row_fits c = λ t i. sym (every_fails _ _ _ c.loop-r-test.true (sym (c.row_fits.ensures t i) ∙ c.if-not-row_fits.true))

pub loop-r-preserved : goal.loop-r-preserved
loop-r-preserved c = (omega arith, λ t i. every_more _ _ (c.loop-r.invariant.1 t i) (sym (c.row_fits.ensures t i) ∙ c.if-not-row_fits.false))

pub returns : goal.returns
returns c = λ t i. every_all _ _ _ c.loop-r.invariant.0 c.loop-r-test.false (c.loop-r.invariant.1 t i)
