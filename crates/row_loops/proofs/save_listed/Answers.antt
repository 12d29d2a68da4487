use mathlib.Core.Path.{refl, ◌∙◌}
use native.Mathlib.Omega.{arith}
use lib.ListN.{length}
use Rattle.rows.proofs.Laws.Listed.{row_before, collected_starts, collected_turn, collected_end}
use Rattle.row_loops.proofs.save_listed.Goals as goal

pub loop-i-init : goal.loop-i-init
loop-i-init c = (collected_starts _ _ _ _ _, refl)

pub overflow_mul-first : goal.overflow_mul-first
overflow_mul-first c = omega (arith, row_before c.args.w c.args.first c.loop-i.i (length c.args.list.now) c.loop-i-test.true)

pub overflow_mul-row : goal.overflow_mul-row
overflow_mul-row c = omega (arith, c.requires.2.fits c.loop-i.i c.loop-i-test.true)

pub copy-requires : goal.copy-requires
copy-requires c = omega (arith, row_before c.args.w c.args.first c.loop-i.i (length c.args.list.now) c.loop-i-test.true, c.requires.2.fits c.loop-i.i c.loop-i-test.true)

pub loop-i-preserved : goal.loop-i-preserved
loop-i-preserved c = (collected_turn _ _ _ _ _ _ _ _ c.loop-i-test.true c.copy.ensures c.loop-i.invariant.0, c.copy.auto.dst ∙ c.loop-i.invariant.1)

pub returns : goal.returns
returns c = collected_end _ _ _ _ _ _ _ c.loop-i-test.false c.loop-i.invariant.0
