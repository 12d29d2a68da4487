-- `line_writer::new_lines::put_start` meets its contract. Assumes nothing.
use Rattle.text.specs.Bytes.{bytes}
use Rattle.line_writer.specs.Line.{depolarizing_start}
use Rattle.line_writer.specs.Laws.Lines.{start_lent, start_values, start_length}
use native.Mathlib.Omega.{arith}
use Rattle.line_writer.proofs.new_lines.put_start.Goals as goal

pub put_numbers-requires : goal.put_numbers-requires
unfolding bytes depolarizing_start
put_numbers-requires c = (start_lent _, rw start_values (omega (arith, start_length c.args.p)))

pub returns : goal.returns
unfolding bytes depolarizing_start
returns c = rw start_values at c.put_numbers.ensures
