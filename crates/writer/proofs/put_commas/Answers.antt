use Rattle.writer.specs.Laws.Placing.{rest_length}
use Rattle.writer.specs.Laws.Lists.{listed_none, room_left, listed_more, listed_all}
use native.Mathlib.Omega.{arith}
use Rattle.writer.proofs.put_commas.Goals as goal

pub loop-n-init : goal.loop-n-init
loop-n-init c = listed_none

pub put_byte-next-requires : goal.put_byte-next-requires
put_byte-next-requires c = omega (arith, room_left c.loop-n.invariant c.loop-n-test.true)

pub put_number-next-requires : goal.put_number-next-requires
put_number-next-requires c = omega (arith, room_left c.loop-n.invariant c.loop-n-test.true, c.put_byte-next.ensures.place)

pub loop-n-preserved : goal.loop-n-preserved
loop-n-preserved c = listed_more c.loop-n.invariant c.loop-n-test.true c.put_byte-next.ensures c.put_number-next.ensures

pub shape_of-out : goal.shape_of-out
shape_of-out c = rest_length c.loop-n.invariant.rest

pub returns : goal.returns
returns c = listed_all c.loop-n.invariant c.loop-n-test.false
