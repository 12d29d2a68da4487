-- `made_lines::put_kind` meets its contract. Assumes nothing.
use Rattle.text.specs.Bytes.{bytes}
use Rattle.made.specs.Making.{ring}
use Rattle.made_lines.specs.Laws.Plain.{p_made, e_made}
use Rattle.made_lines.proofs.put_kind.Goals as goal

pub returns-in-Pauli : goal.returns-in-Pauli
returns-in-Pauli c = unfold ring bytes in rw c.in-Pauli.is (p_made c.args.h c.put_pauli_line.ensures)

pub returns-in-Exponential : goal.returns-in-Exponential
returns-in-Exponential c = unfold ring bytes in rw c.in-Exponential.is (e_made c.args.h c.put_pauli_line-in-Exponential.ensures)
