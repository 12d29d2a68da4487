-- `made_lines::other_lines::put_reset` meets its contract. Assumes nothing.
use Rattle.text.specs.Bytes.{bytes}
use Rattle.made_lines.specs.Laws.Plain.{reset_made}
use Rattle.made_lines.proofs.other_lines.put_reset.Goals as goal

pub returns : goal.returns
returns c = unfold bytes in reset_made c.args.h c.reset_qubits-q.ensures c.put_members-end.ensures c.moved.ensures c.end_line.ensures
