-- `lines_back::unitary` meets its contract. Assumes nothing.
use native.Mathlib.Omega.{arith}
use Rattle.pauli.specs.Code.{operand_count_of}
use Rattle.job.specs.Sound.{LineSound}
use Rattle.job.proofs.Laws.Lists.{below_more}
use Rattle.instructions.specs.Laws.Read.{unitary_read, gate_small}
use Rattle.lines_back.specs.Laws.Kinds.{unitary_goes}
use Rattle.lines_back.proofs.unitary.Goals as goal

pub number-requires : goal.number-requires
number-requires c = omega arith

pub list-requires : goal.list-requires
list-requires c = (omega arith, (unitary_read c.requires.plain).2.few 0 (omega arith))

pub unitary_back-requires : goal.unitary_back-requires
unfolding LineSound operand_count_of
unitary_back-requires c =
    let e = c.list.ensures in
    let v = c.number.ensures in
    let (g, k, r) = unitary_read c.requires.plain in
    (rw v (gate_small _ k), rw (e, v, k) r.sound.count, rw e (below_more _ 256 _ c.requires.few_qubits r.sound.operands.below))

pub returns : goal.returns
returns c = λ shot set. unitary_goes shot set (rw (c.number.ensures, c.list.ensures) at c.unitary_back.ensures)
