-- `replay::bytes_buffer` meets its contract. Assumes nothing.
use Rattle.replay.proofs.Long.{long}
use Rattle.replay.proofs.bytes_buffer.Goals as goal

pub returns : goal.returns
returns c = long 2162688 65
