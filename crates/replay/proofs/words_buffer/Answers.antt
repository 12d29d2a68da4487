-- `replay::words_buffer` meets its contract. Assumes nothing.
use Rattle.replay.proofs.Long.{long}
use Rattle.replay.proofs.words_buffer.Goals as goal

pub returns : goal.returns
returns c = long 32768 4702111234474983745
