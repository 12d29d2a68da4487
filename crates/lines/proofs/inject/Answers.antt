-- `lines::inject` meets its contract. Assumes nothing.
use Rattle.instructions.specs.Laws.Read.{inject_read}
use Rattle.propagator.specs.Laws.Lists.{sound_in}
use Rattle.job.specs.Sound.{LineSound}
use native.Mathlib.Omega.{arith}
use Rattle.lines.proofs.inject.Goals as goal

pub number-requires : goal.number-requires
number-requires c = omega arith

pub list-requires : goal.list-requires
list-requires c = (omega arith, (inject_read c.requires.plain).few 0 (omega arith))

pub list-requires-2 : goal.list-requires-2
list-requires-2 c = (omega arith, (inject_read c.requires.plain).few 1 (omega arith))

pub inject_pauli-requires : goal.inject_pauli-requires
unfolding LineSound
inject_pauli-requires c =
    let e = c.list.ensures in
    let e2 = c.list-2.ensures in
    let s = (inject_read c.requires.plain).sound in
    let within = s.within in
    let v = c.number.ensures in
    let words = c.requires.plain.in_words in
    (c.requires.of_x, c.requires.of_z, rw (e, e2) (sound_in _ _ s.pauli), omega arith)

pub returns : goal.returns
returns c =
    let e = c.list.ensures in
    let e2 = c.list-2.ensures in
    record { acts = λ m line p d. rw (← (inject_read p).is, ← e, ← e2, ← c.number.ensures) (c.inject_pauli.ensures m d) }
