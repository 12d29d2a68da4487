-- `made_lines::other_lines::put_measure` meets its contract. Assumes nothing.
use Rattle.text.specs.Bytes.{bytes}
use Rattle.made_lines.specs.Laws.Plain.{measure_made}
use Rattle.made_lines.proofs.other_lines.put_measure.Goals as goal

pub returns : goal.returns
returns c = unfold bytes in measure_made c.args.h c.put_pauli-next.ensures c.put_value-end.ensures c.with_outcome.ensures c.end_line.ensures
