-- `session_text::put_header` meets its contract. Assumes nothing.
use native.Mathlib.Omega.{arith}
use Rattle.text.specs.Bytes.{bytes}
use Rattle.writer.specs.Laws.Placing.{puts_more}
use Rattle.session_text.specs.Laws.Lines.{header_lent, header_line, header_size}
use Rattle.session_text.proofs.put_header.Goals as goal

pub put_numbers-next-requires : goal.put_numbers-next-requires
unfolding bytes
put_numbers-next-requires c = (header_lent c.args.h, rw (header_line c.args.h) (omega (arith, header_size c.args.h)))

pub put_byte-requires : goal.put_byte-requires
unfolding bytes
put_byte-requires c = let line = rw header_line at c.put_numbers-next.ensures in omega (arith, line.place, header_size c.args.h)

pub returns : goal.returns
unfolding bytes
returns c = puts_more (rw header_line at c.put_numbers-next.ensures) c.put_byte.ensures
