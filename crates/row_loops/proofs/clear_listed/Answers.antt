use mathlib.Core.Path.{◌∙◌}
use native.Mathlib.Omega.{arith}
use Rattle.rows.proofs.Laws.Listed.{over_turn, over_end}
use Rattle.row_loops.proofs.clear_listed.Goals as goal

pub overflow_mul-row : goal.overflow_mul-row
overflow_mul-row c = omega (arith, c.requires.fits c.loop-row.row-index (omega arith))

pub clear-requires : goal.clear-requires
clear-requires c = omega (arith, c.requires.fits c.loop-row.row-index (omega arith))

pub loop-row-preserved : goal.loop-row-preserved
loop-row-preserved c = (over_turn _ _ _ _ _ _ c.loop-row-test.true c.clear.ensures c.loop-row.invariant.0, c.clear.auto.words ∙ c.loop-row.invariant.1)

pub returns : goal.returns
returns c = over_end _ _ _ _ _ c.loop-row-test.false c.loop-row.invariant.0
