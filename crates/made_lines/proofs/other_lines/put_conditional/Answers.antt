-- `made_lines::other_lines::put_conditional` meets its contract. Assumes nothing.
use Rattle.text.specs.Bytes.{bytes}
use Rattle.made_lines.specs.Laws.Plain.{conditional_made}
use Rattle.made_lines.proofs.other_lines.put_conditional.Goals as goal

pub returns : goal.returns
returns c = unfold bytes in conditional_made c.args.h c.put_pauli-next.ensures c.few-ids.ensures c.put_members-at.ensures c.pick-b.ensures c.put_value-end.ensures c.moved.ensures c.end_line.ensures
