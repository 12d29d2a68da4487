use Rattle.correlations.specs.Laws.Loops.{search_none, search_more, search_ends}
use native.Mathlib.Omega.{arith}
use Rattle.correlations.proofs.first_differing.Goals as goal

pub loop-at-init : goal.loop-at-init
loop-at-init c = search_none c.requires

pub round-r-requires : goal.round-r-requires
round-r-requires c = (c.loop-at.invariant.left c.loop-at-test.true, c.loop-at-test.true)

pub earlier-differing-requires : goal.earlier-differing-requires
earlier-differing-requires c = tt

pub loop-at-smaller : goal.loop-at-smaller
loop-at-smaller c = omega (arith, c.round-r.ensures.onward, c.loop-at-test.true)

pub loop-at-preserved : goal.loop-at-preserved
loop-at-preserved c = search_more c.loop-at.invariant c.round-r.ensures c.earlier-differing.ensures

pub returns : goal.returns
returns c = search_ends c.loop-at.invariant c.loop-at-test.false
