-- `line_writer::new_lines::put_inject` meets its contract. Assumes nothing.
use Rattle.text.specs.Bytes.{bytes}
use Rattle.writer.specs.Laws.Placing.{puts_more, puts_past}
use Rattle.line_writer.specs.Laws.Lines.{inject_lent, inject_values, inject_length, inject_bytes, inject_small}
use native.Mathlib.Omega.{arith}
use Rattle.line_writer.proofs.new_lines.put_inject.Goals as goal

pub inject_length-requires : goal.inject_length-requires
inject_length-requires c = c.requires.0

pub overflow_add-result : goal.overflow_add-result
overflow_add-result c = omega (arith, rw inject_bytes at c.inject_length.ensures, inject_small c.args.shot.0 c.requires.0, c.requires.1)

pub returns-then-out-at : goal.returns-then-out-at
returns-then-out-at c = rw c.inject_length.ensures (puts_past _ _ _ c.if-out-at.true)

pub put_line-next-requires : goal.put_line-next-requires
unfolding bytes
put_line-next-requires c = (inject_lent _ c.requires.0, omega (arith, c.requires.1, inject_length c.args.shot.0 c.requires.0))

pub put_byte-requires : goal.put_byte-requires
unfolding bytes
put_byte-requires c = omega (arith, c.requires.1, c.put_line-next.ensures.place, inject_length c.args.shot.0 c.requires.0)

pub returns : goal.returns
unfolding bytes
returns c = puts_more (rw (inject_values _ c.requires.0) at c.put_line-next.ensures) c.put_byte.ensures
