-- `lines_back::inject` meets its contract. Assumes nothing.
use mathlib.Core.Path.{sym, ◌∙◌}
use native.Mathlib.Omega.{arith}
use borrow.Author.Tests.{eq-eqb, ne_eqb}
use Rattle.job.specs.Sound.{LineSound}
use Rattle.instructions.specs.Laws.Read.{inject_read}
use Rattle.lines_back.specs.Laws.Kinds.{pauli_below, inject_goes}
use Rattle.lines_back.proofs.inject.Goals as goal

pub number-requires : goal.number-requires
number-requires c = omega arith

pub returns-then-number-shot : goal.returns-then-number-shot
returns-then-number-shot c = λ set. inject_goes (sym (rw (← c.number.ensures, ne_eqb _ _ c.if-number-shot.true)))

pub list-requires : goal.list-requires
list-requires c = (omega arith, (inject_read c.requires.plain).few 0 (omega arith))

pub list-requires-2 : goal.list-requires-2
list-requires-2 c = (omega arith, (inject_read c.requires.plain).few 1 (omega arith))

pub injection_counts-requires : goal.injection_counts-requires
unfolding LineSound
injection_counts-requires c = rw (c.list.ensures, c.list-2.ensures) (pauli_below c.requires.few_qubits (inject_read c.requires.plain).sound.pauli)

pub returns : goal.returns
returns c = λ set. inject_goes ((rw (c.list.ensures, c.list-2.ensures) at c.injection_counts.ensures) ∙ rw (← c.number.ensures, eq-eqb _ _ c.if-number-shot.false))
