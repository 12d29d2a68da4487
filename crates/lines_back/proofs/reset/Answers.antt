-- `lines_back::reset` meets its contract. Assumes nothing.
use native.Mathlib.Omega.{arith}
use Rattle.job.specs.Sound.{LineSound}
use Rattle.job.proofs.Laws.Lists.{below_more}
use Rattle.instructions.specs.Laws.Read.{reset_read}
use Rattle.lines_back.specs.Laws.Kinds.{reset_goes}
use Rattle.lines_back.proofs.reset.Goals as goal

pub list-requires : goal.list-requires
list-requires c = (omega arith, (reset_read c.requires.plain).few 0 (omega arith))

pub reset_back-requires : goal.reset_back-requires
unfolding LineSound
reset_back-requires c = rw c.list.ensures (below_more _ 256 _ c.requires.few_qubits (reset_read c.requires.plain).sound.operands.below)

pub returns : goal.returns
returns c = λ shot set. reset_goes shot set (rw c.list.ensures at c.reset_back.ensures)
