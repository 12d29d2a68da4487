-- `writer::put_byte` meets its contract. Assumes nothing.
use Rattle.writer.specs.Laws.Placing.{puts_byte, puts_past}
use Rattle.writer.proofs.put_byte.Goals as goal

pub returns-then-out-at : goal.returns-then-out-at
returns-then-out-at c = puts_past _ _ _ c.if-out-at.true

pub returns : goal.returns
returns c = puts_byte
