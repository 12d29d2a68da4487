use Rattle.check_values.specs.Laws.Pairs.{every_all, every_none, every_more, every_fails}
use native.Mathlib.Omega.{arith}
use mathlib.Core.Path.{sym, ◌∙◌}
use Rattle.check_values.proofs.clifford.row_fits.Goals as goal

pub loop-s-init : goal.loop-s-init
loop-s-init c = (omega arith, λ t i. every_none _)

pub overflow_mul-s-end : goal.overflow_mul-s-end
overflow_mul-s-end c = omega arith

pub pair_fits-requires : goal.pair_fits-requires
pair_fits-requires c = (omega arith, omega arith, omega arith, omega arith)

pub returns-then-not-pair_fits : goal.returns-then-not-pair_fits
returns-then-not-pair_fits c = λ t i. sym (every_fails _ _ _ c.loop-s-test.true (sym (c.pair_fits.ensures t i) ∙ c.if-not-pair_fits.true))

pub loop-s-preserved : goal.loop-s-preserved
loop-s-preserved c = (omega arith, λ t i. every_more _ _ (c.loop-s.invariant.1 t i) (sym (c.pair_fits.ensures t i) ∙ c.if-not-pair_fits.false))

pub returns : goal.returns
returns c = λ t i. every_all _ _ _ c.loop-s.invariant.0 c.loop-s-test.false (c.loop-s.invariant.1 t i)
