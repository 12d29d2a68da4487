-- `reader::pauli_lists` meets its contract. Assumes nothing.
use Rattle.template.specs.Laws.Reading.{stops, then_next}
use Rattle.text.specs.Bytes.{bytes}
use Rattle.reader.specs.Tried.{pauli_part}
use Rattle.reader.proofs.pauli_lists.Goals as goal

pub returns-in_err-x-clause-read : goal.returns-in_err-x-clause-read
unfolding pauli_part bytes
returns-in_err-x-clause-read c = rw c.from_residual.ensures (stops _ c.in_err-x.ensures.read)

pub returns-clause-read : goal.returns-clause-read
unfolding pauli_part bytes
returns-clause-read c = then_next c.in_ok-x.ensures.read c.field-2.ensures.read
