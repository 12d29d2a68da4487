-- `made_lines::other_lines::put_pauli_line` meets its contract. Assumes nothing.
use Rattle.made_lines.specs.Laws.Plain.{pauli_ended}
use Rattle.made_lines.proofs.other_lines.put_pauli_line.Goals as goal

pub returns : goal.returns
returns c = pauli_ended c.put_pauli-next.ensures c.end_line.ensures
