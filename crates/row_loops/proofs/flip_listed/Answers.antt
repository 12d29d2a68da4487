use mathlib.Core.Path.{◌∙◌}
use native.Mathlib.Omega.{arith}
use Rattle.rows.proofs.Laws.Listed.{over_turn, over_end}
use Rattle.row_loops.proofs.flip_listed.Goals as goal

pub flip_bit-requires : goal.flip_bit-requires
flip_bit-requires c = omega (arith, c.requires.1.fits c.loop-row.row-index c.loop-row-test.true)

pub loop-row-preserved : goal.loop-row-preserved
loop-row-preserved c = (over_turn _ _ _ _ _ _ c.loop-row-test.true c.flip_bit.ensures c.loop-row.invariant.0, c.flip_bit.auto.rows ∙ c.loop-row.invariant.1)

pub returns : goal.returns
returns c = over_end _ _ _ _ _ c.loop-row-test.false c.loop-row.invariant.0
