-- `made_lines::other_lines::put_barrier` meets its contract. Assumes nothing.
use Rattle.text.specs.Bytes.{bytes}
use Rattle.made_lines.specs.Laws.Plain.{barrier_made}
use Rattle.made_lines.proofs.other_lines.put_barrier.Goals as goal

pub returns : goal.returns
returns c = unfold bytes in barrier_made c.args.h c.stretch-q.ensures c.put_members-end.ensures c.moved.ensures c.end_line.ensures
