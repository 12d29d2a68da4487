-- `session_text::put_delta` meets its contract. Assumes nothing.
use native.Mathlib.Omega.{arith}
use Rattle.text.specs.Bytes.{bytes}
use Rattle.writer.specs.Laws.Placing.{puts_more}
use Rattle.session_text.specs.Lines.{delta_text}
use Rattle.session_text.specs.Laws.Lines.{delta_lent, delta_values, delta_size, bits_next}
use Rattle.session_text.proofs.put_delta.Goals as goal

pub put_numbers-bits-requires : goal.put_numbers-bits-requires
unfolding bytes
put_numbers-bits-requires c = (delta_lent c.args.id.0, rw (delta_values c.args.id.0) (omega (arith, c.requires.1, delta_size c.args.id.0)))

pub put_bits-next-requires : goal.put_bits-next-requires
unfolding bytes
put_bits-next-requires c =
    let start = rw delta_values at c.put_numbers-bits.ensures in
    (c.requires.0, omega (arith, c.requires.0, c.requires.1, start.place, delta_size c.args.id.0), c.requires.2)

pub put_byte-requires : goal.put_byte-requires
unfolding bytes
put_byte-requires c =
    let start = rw delta_values at c.put_numbers-bits.ensures in
    omega (arith, c.requires.0, c.requires.1, start.place, delta_size c.args.id.0, bits_next _ _ c.put_bits-next.ensures)

pub returns : goal.returns
unfolding bytes delta_text
returns c = puts_more (puts_more (rw delta_values at c.put_numbers-bits.ensures) c.put_bits-next.ensures) c.put_byte.ensures
