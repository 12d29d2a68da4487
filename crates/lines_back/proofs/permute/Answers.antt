-- `lines_back::permute` meets its contract. Assumes nothing.
use native.Mathlib.Omega.{arith}
use Rattle.job.specs.Sound.{LineSound}
use Rattle.job.proofs.Laws.Lists.{below_more}
use Rattle.instructions.specs.Laws.Read.{permute_read}
use Rattle.lines_back.specs.Laws.Kinds.{permute_goes}
use Rattle.lines_back.proofs.permute.Goals as goal

pub list-requires : goal.list-requires
list-requires c = (omega arith, (permute_read c.requires.plain).few 0 (omega arith))

pub list-requires-2 : goal.list-requires-2
list-requires-2 c = (omega arith, (permute_read c.requires.plain).few 1 (omega arith))

pub permute_back-requires : goal.permute_back-requires
unfolding LineSound
permute_back-requires c = let s = (permute_read c.requires.plain).sound in rw (c.list.ensures, c.list-2.ensures) (s.operands.few, below_more _ 256 _ c.requires.few_qubits s.operands.below, s.operands.apart, s.places)

pub returns : goal.returns
returns c = λ shot set. permute_goes shot set (rw (c.list.ensures, c.list-2.ensures) at c.permute_back.ensures)
