use native.Mathlib.Omega.{arith}
use Rattle.totals.specs.Laws.Sum.{sum_starts, sum_turn, sum_ends}
use Rattle.totals.proofs.delta_sum.Goals as goal

pub loop-k-init : goal.loop-k-init
loop-k-init c = sum_starts _ _ _ _

pub overflow_mul-word : goal.overflow_mul-word
overflow_mul-word c = omega (arith, rw (← c.outcome_at-id.ensures) at (c.requires.0.fits c.loop-k.k c.loop-k-test.true))

pub overflow_add-word : goal.overflow_add-word
overflow_add-word c = omega (arith, rw (← c.outcome_at-id.ensures) at (c.requires.0.fits c.loop-k.k c.loop-k-test.true))

pub loop-k-preserved : goal.loop-k-preserved
loop-k-preserved c = rw c.outcome_at-id.ensures (sum_turn _ _ _ _ _ _ c.loop-k-test.true c.loop-k.invariant)

pub returns : goal.returns
returns c = sum_ends _ _ _ _ _ _ c.loop-k-test.false c.loop-k.invariant
