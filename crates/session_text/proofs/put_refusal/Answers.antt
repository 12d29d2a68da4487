-- `session_text::put_refusal` meets its contract. Assumes nothing.
use native.Mathlib.Omega.{arith}
use Rattle.text.specs.Bytes.{bytes}
use Rattle.writer.specs.Laws.Placing.{puts_more}
use Rattle.session_text.specs.Laws.Lines.{refusal_lent, refusal_length, refusal_line}
use Rattle.session_text.proofs.put_refusal.Goals as goal

pub put_numbers-next-requires : goal.put_numbers-next-requires
unfolding bytes
put_numbers-next-requires c = (refusal_lent c.args.a, omega (arith, refusal_length c.args.a))

pub put_byte-requires : goal.put_byte-requires
unfolding bytes
put_byte-requires c = omega (arith, c.put_numbers-next.ensures.place, refusal_length c.args.a)

pub returns : goal.returns
unfolding bytes
returns c = rw refusal_line (puts_more c.put_numbers-next.ensures c.put_byte.ensures)
