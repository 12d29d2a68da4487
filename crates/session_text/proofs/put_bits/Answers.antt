use native.Mathlib.Omega.{arith}
use Rattle.writer.specs.Laws.Placing.{rest_length}
use Rattle.session_text.specs.Laws.Lines.{bits_none, bits_more, bits_all}
use Rattle.session_text.proofs.put_bits.Goals as goal

pub loop-s-init : goal.loop-s-init
loop-s-init c = bits_none

pub delta_byte-b-requires : goal.delta_byte-b-requires
delta_byte-b-requires c = rw c.words_per_row-w.ensures (omega (arith, c.requires.2), omega (arith, c.loop-s-test.true, c.requires.0))

pub put_byte-next-requires : goal.put_byte-next-requires
put_byte-next-requires c = omega (arith, c.loop-s.invariant.place, c.loop-s-test.true, c.requires.1)

pub loop-s-preserved : goal.loop-s-preserved
loop-s-preserved c = bits_more c.loop-s.invariant c.loop-s-test.true (rw (c.delta_byte-b.ensures, c.words_per_row-w.ensures) at c.put_byte-next.ensures)

pub shape_of-out : goal.shape_of-out
shape_of-out c = rest_length c.loop-s.invariant.rest

pub returns : goal.returns
returns c = bits_all c.loop-s.invariant c.loop-s-test.false
