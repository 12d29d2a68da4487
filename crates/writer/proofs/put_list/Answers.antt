-- `writer::put_list` meets its contract. Assumes nothing.
use Rattle.writer.specs.Laws.Placing.{puts_more}
use Rattle.writer.specs.Laws.Lists.{list_first, first_length, list_empty}
use mathlib.Core.Path.{ap}
use lib.ListN.{length}
use native.Mathlib.Omega.{arith}
use Rattle.writer.proofs.put_list.Goals as goal

pub put_byte-requires : goal.put_byte-requires
put_byte-requires c = omega (arith, c.requires, ap length (list_empty c.args.l.now c.if-l-eq0.true))

pub returns-then-l-eq0 : goal.returns-then-l-eq0
returns-then-l-eq0 c = rw (list_empty _ c.if-l-eq0.true) c.put_byte.ensures

pub put_number-next-requires : goal.put_number-next-requires
put_number-next-requires c = omega (arith, c.requires, first_length c.args.l.now c.if-l-eq0.false)

pub put_commas-requires : goal.put_commas-requires
put_commas-requires c = omega (arith, c.requires, first_length c.args.l.now c.if-l-eq0.false, c.put_number-next.ensures.place)

pub returns : goal.returns
returns c = rw (list_first _ c.if-l-eq0.false) at (puts_more c.put_number-next.ensures c.put_commas.ensures)
