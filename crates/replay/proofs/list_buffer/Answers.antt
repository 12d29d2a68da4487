-- `replay::list_buffer` meets its contract. Assumes nothing.
use Rattle.replay.proofs.Long.{long}
use Rattle.replay.proofs.list_buffer.Goals as goal

pub returns : goal.returns
returns c = long 786432 0
