-- `lines_back::exponential` meets its contract. Assumes nothing.
use native.Mathlib.Omega.{arith}
use Rattle.job.specs.Sound.{LineSound}
use Rattle.instructions.specs.Laws.Read.{exponential_read}
use Rattle.lines_back.specs.Laws.Kinds.{pauli_below, exponential_goes}
use Rattle.lines_back.proofs.exponential.Goals as goal

pub list-requires : goal.list-requires
list-requires c = (omega arith, (exponential_read c.requires.plain).few 0 (omega arith))

pub list-requires-2 : goal.list-requires-2
list-requires-2 c = (omega arith, (exponential_read c.requires.plain).few 1 (omega arith))

pub exponential_back-requires : goal.exponential_back-requires
unfolding LineSound
exponential_back-requires c = rw (c.list.ensures, c.list-2.ensures) (pauli_below c.requires.few_qubits (exponential_read c.requires.plain).sound)

pub returns : goal.returns
returns c = λ shot set. exponential_goes shot set (rw (c.list.ensures, c.list-2.ensures) at c.exponential_back.ensures)
