-- `made_lines::other_lines::put_allocate` meets its contract. Assumes nothing.
use Rattle.text.specs.Bytes.{bytes}
use Rattle.made_lines.specs.Laws.Plain.{allocate_made}
use Rattle.made_lines.proofs.other_lines.put_allocate.Goals as goal

pub returns : goal.returns
returns c = unfold bytes in allocate_made c.args.h c.put_value-next.ensures c.pick-angle.ensures c.put_value-end.ensures c.with_outcome.ensures c.end_line.ensures
