-- `lines::exponential` meets its contract. Assumes nothing.
use Rattle.instructions.specs.Laws.Read.{exponential_read}
use Rattle.propagator.specs.Laws.Lists.{sound_in}
use Rattle.job.specs.Sound.{LineSound}
use native.Mathlib.Omega.{arith}
use Rattle.lines.proofs.exponential.Goals as goal

pub list-requires : goal.list-requires
list-requires c = (omega arith, (exponential_read c.requires.0.plain).few 0 (omega arith))

pub list-requires-2 : goal.list-requires-2
list-requires-2 c = (omega arith, (exponential_read c.requires.0.plain).few 1 (omega arith))

pub apply_pauli_exp-requires : goal.apply_pauli_exp-requires
unfolding LineSound
apply_pauli_exp-requires c =
    let e = c.list.ensures in
    let e2 = c.list-2.ensures in
    (omega (arith, c.requires.1), c.requires.0.of_x, c.requires.0.of_z, rw (e, e2) (sound_in _ _ (exponential_read c.requires.0.plain).sound))

pub returns : goal.returns
returns c =
    let e = c.list.ensures in
    let e2 = c.list-2.ensures in
    record { acts = λ m line p d. rw (← (exponential_read p).is, ← e, ← e2) (c.apply_pauli_exp.ensures m d) }
