use native.Mathlib.Omega.{arith}
use Rattle.writer.specs.Laws.Placing.{rest_length}
use Rattle.session_text.specs.Laws.Lines.{deltas_none, deltas_more, deltas_all, row_below}
use Rattle.session_text.proofs.put_deltas.Goals as goal

pub loop-id-init : goal.loop-id-init
loop-id-init c = deltas_none

pub put_delta-next-requires : goal.put_delta-next-requires
put_delta-next-requires c = (c.requires.0, omega (arith, c.requires.1, c.loop-id.invariant.place, c.loop-id-test.true), row_below _ _ _ _ c.loop-id-test.true c.requires.2)

pub loop-id-preserved : goal.loop-id-preserved
loop-id-preserved c = deltas_more c.loop-id.invariant c.loop-id-test.true c.requires.0 c.put_delta-next.ensures

pub shape_of-out : goal.shape_of-out
shape_of-out c = rest_length c.loop-id.invariant.rest

pub returns : goal.returns
returns c = deltas_all c.loop-id.invariant c.loop-id-test.false
