-- `execution::injection::flip_if` meets its contract. Assumes nothing.
use Rattle.execution.proofs.injection.flip_if.Goals as goal

pub returns-then-not-on : goal.returns-then-not-on
returns-then-not-on c = rw c.if-not-on.true

pub returns : goal.returns
returns c = rw c.if-not-on.false c.flip_bit.ensures
