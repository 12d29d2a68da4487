-- `noise::words::count` meets its contract.
use Rattle.std.proofs.Common.{sym, length-append}
use Rattle.noise.proofs.words.count.Goals as goal

pub returns : goal.returns
returns c = sym (length-append c.args.words.now c.args.more.now)
