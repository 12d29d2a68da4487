-- `lines_back::controlled` meets its contract. Assumes nothing.
use native.Mathlib.Omega.{arith}
use Rattle.job.specs.Sound.{LineSound}
use Rattle.instructions.specs.Laws.Read.{controlled_read}
use Rattle.lines_back.specs.Laws.Kinds.{pauli_below, controlled_goes}
use Rattle.lines_back.proofs.controlled.Goals as goal

pub list-requires : goal.list-requires
list-requires c = (omega arith, (controlled_read c.requires.plain).few 0 (omega arith))

pub list-requires-2 : goal.list-requires-2
list-requires-2 c = (omega arith, (controlled_read c.requires.plain).few 1 (omega arith))

pub list-requires-3 : goal.list-requires-3
list-requires-3 c = (omega arith, (controlled_read c.requires.plain).few 2 (omega arith))

pub list-requires-4 : goal.list-requires-4
list-requires-4 c = (omega arith, (controlled_read c.requires.plain).few 3 (omega arith))

pub controlled_back-requires : goal.controlled_back-requires
unfolding LineSound
controlled_back-requires c = let s = (controlled_read c.requires.plain).sound in let control = pauli_below c.requires.few_qubits s.control in let target = pauli_below c.requires.few_qubits s.target in rw (c.list.ensures, c.list-2.ensures, c.list-3.ensures, c.list-4.ensures) (control.0, control.1, target.0, target.1)

pub returns : goal.returns
returns c = λ shot set. controlled_goes shot set (rw (c.list.ensures, c.list-2.ensures, c.list-3.ensures, c.list-4.ensures) at c.controlled_back.ensures)
