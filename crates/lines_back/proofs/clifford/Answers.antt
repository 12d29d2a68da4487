-- `lines_back::clifford` meets its contract. Assumes nothing.
use native.Mathlib.Omega.{arith}
use Rattle.job.specs.Sound.{LineSound}
use Rattle.job.proofs.Laws.Lists.{below_more}
use Rattle.instructions.specs.Laws.Read.{clifford_read, clifford_table}
use Rattle.lines_back.specs.Laws.Kinds.{clifford_goes}
use Rattle.lines_back.proofs.clifford.Goals as goal

pub list-requires : goal.list-requires
list-requires c = (omega arith, (clifford_read c.requires.plain).few 0 (omega arith))

pub list-requires-2 : goal.list-requires-2
list-requires-2 c = (omega arith, (clifford_read c.requires.plain).few 1 (omega arith))

pub clifford_back-requires : goal.clifford_back-requires
unfolding LineSound
clifford_back-requires c =
    let p = c.requires in
    let s = (clifford_read p.plain).sound in
    rw (c.list-2.ensures, c.list.ensures) (clifford_table p.plain, below_more _ 256 _ p.few_qubits s.operands.below, s.operands.apart)

pub returns : goal.returns
returns c = λ shot set. clifford_goes shot set (rw (c.list-2.ensures, c.list.ensures) at c.clifford_back.ensures)
