-- `made_lines::other_lines::put_injection` meets its contract. Assumes nothing.
use Rattle.text.specs.Bytes.{bytes}
use Rattle.made_lines.specs.Laws.Plain.{inject_made}
use Rattle.made_lines.proofs.other_lines.put_injection.Goals as goal

pub returns : goal.returns
returns c = unfold bytes in inject_made c.args.h c.pick-shot.ensures c.put_value-at.ensures c.moved.ensures c.put_pauli-next.ensures c.end_line.ensures
