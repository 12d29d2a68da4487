-- `lines_back::conditional` meets its contract. Assumes nothing.
use Prim.Native.Nat.{◌≤◌}
use native.Mathlib.Omega.{arith}
use Rattle.job.specs.Sound.{LineSound}
use Rattle.job.proofs.Laws.Lists.{below_more}
use Rattle.instructions.specs.Laws.Read.{conditional_read}
use Rattle.lines_back.specs.Laws.Kinds.{pauli_below, conditional_goes}
use Rattle.lines_back.proofs.conditional.Goals as goal

pub list-requires : goal.list-requires
list-requires c = (omega arith, (conditional_read c.requires.0.plain).few 0 (omega arith))

pub list-requires-2 : goal.list-requires-2
list-requires-2 c = (omega arith, (conditional_read c.requires.0.plain).few 1 (omega arith))

pub list-requires-3 : goal.list-requires-3
list-requires-3 c = (omega arith, (conditional_read c.requires.0.plain).few 2 (omega arith))

pub conditional_back-requires : goal.conditional_back-requires
unfolding LineSound
conditional_back-requires c = let p = c.requires.0 in let s = (conditional_read p.plain).sound in let lists = pauli_below p.few_qubits s.pauli in let recorded : p.plain.recorded ≤ 1024 = omega (arith, p.plain.in_rows, p.few_outcomes) in rw (c.list.ensures, c.list-2.ensures, c.list-3.ensures) (c.requires.1, lists.0, lists.1, below_more _ 1024 _ recorded s.known.below)

pub returns : goal.returns
returns c = (c.conditional_back.ensures.0, λ shot. conditional_goes shot (rw (c.list.ensures, c.list-2.ensures, c.list-3.ensures) at c.conditional_back.ensures.1))
