-- `line_writer::new_lines::put_depolarizing` meets its contract. Assumes nothing.
use Rattle.text.specs.Bytes.{bytes}
use Rattle.job.specs.Line.{size_of}
use Rattle.writer.specs.Laws.Placing.{puts_more}
use Rattle.line_writer.specs.Laws.Lines.{end_lent, end_values, end_length, depolarizing_line}
use native.Mathlib.Omega.{arith}
use Rattle.line_writer.proofs.new_lines.put_depolarizing.Goals as goal

pub put_bytes-next-requires : goal.put_bytes-next-requires
put_bytes-next-requires c = omega (arith, c.requires.1)

pub depolarizing_size-requires : goal.depolarizing_size-requires
depolarizing_size-requires c = omega (arith, c.requires.0)

pub put_line-end-requires : goal.put_line-end-requires
unfolding bytes
put_line-end-requires c = (end_lent _ _ c.requires.0, omega (arith, c.requires.1, c.put_bytes-next.ensures.place, end_length c.args.qubits.now c.depolarizing_size.result))

pub put_byte-requires : goal.put_byte-requires
unfolding bytes
put_byte-requires c = omega (arith, c.requires.1, c.put_bytes-next.ensures.place, c.put_line-end.ensures.place, end_length c.args.qubits.now c.depolarizing_size.result)

pub returns : goal.returns
unfolding bytes size_of
returns c p e = rw depolarizing_line at (puts_more (puts_more (rw e at c.put_bytes-next.ensures) (rw (end_values, c.depolarizing_size.ensures) at c.put_line-end.ensures)) c.put_byte.ensures)
