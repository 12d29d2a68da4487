-- `made_lines::other_lines::put_controlled` meets its contract. Assumes nothing.
use Rattle.made_lines.specs.Laws.Plain.{controlled_made}
use Rattle.made_lines.proofs.other_lines.put_controlled.Goals as goal

pub returns : goal.returns
returns c = controlled_made c.args.h c.pick-y.ensures c.few-xs.ensures c.few-zs.ensures c.put_sides-end.ensures.0 c.moved.ensures c.end_line.ensures
