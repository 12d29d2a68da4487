-- `lines_back::measure` meets its contract. Assumes nothing.
use native.Mathlib.Omega.{arith}
use Rattle.job.specs.Sound.{LineSound}
use Rattle.instructions.specs.Laws.Read.{measure_read}
use Rattle.lines_back.specs.Laws.Kinds.{pauli_below, measure_goes}
use Rattle.lines_back.proofs.measure.Goals as goal

pub number-requires : goal.number-requires
number-requires c = omega arith

pub list-requires : goal.list-requires
list-requires c = (omega arith, (measure_read c.requires.plain).few 0 (omega arith))

pub list-requires-2 : goal.list-requires-2
list-requires-2 c = (omega arith, (measure_read c.requires.plain).few 1 (omega arith))

pub measure_back-requires : goal.measure_back-requires
unfolding LineSound
measure_back-requires c = rw (c.list.ensures, c.list-2.ensures) (pauli_below c.requires.few_qubits (measure_read c.requires.plain).sound.observable)

pub returns : goal.returns
returns c = λ shot. measure_goes shot _ (rw (c.number.ensures, c.list.ensures, c.list-2.ensures) at c.measure_back.ensures)
