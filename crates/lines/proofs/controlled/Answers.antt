-- `lines::controlled` meets its contract. Assumes nothing.
use Rattle.instructions.specs.Laws.Read.{controlled_read}
use Rattle.propagator.specs.Laws.Lists.{sound_in}
use Rattle.job.specs.Sound.{LineSound}
use native.Mathlib.Omega.{arith}
use Rattle.lines.proofs.controlled.Goals as goal

pub list-requires : goal.list-requires
list-requires c = (omega arith, (controlled_read c.requires.0.plain).few 0 (omega arith))

pub list-requires-2 : goal.list-requires-2
list-requires-2 c = (omega arith, (controlled_read c.requires.0.plain).few 1 (omega arith))

pub list-requires-3 : goal.list-requires-3
list-requires-3 c = (omega arith, (controlled_read c.requires.0.plain).few 2 (omega arith))

pub list-requires-4 : goal.list-requires-4
list-requires-4 c = (omega arith, (controlled_read c.requires.0.plain).few 3 (omega arith))

pub apply_controlled_pauli-requires : goal.apply_controlled_pauli-requires
unfolding LineSound
apply_controlled_pauli-requires c =
    let e = c.list.ensures in
    let e2 = c.list-2.ensures in
    let e3 = c.list-3.ensures in
    let e4 = c.list-4.ensures in
    let s = (controlled_read c.requires.0.plain).sound in
    (omega (arith, c.requires.1), c.requires.0.of_x, c.requires.0.of_z, rw (e, e2) (sound_in _ _ s.control), rw (e3, e4) (sound_in _ _ s.target))

pub returns : goal.returns
returns c =
    let e = c.list.ensures in
    let e2 = c.list-2.ensures in
    let e3 = c.list-3.ensures in
    let e4 = c.list-4.ensures in
    record { acts = λ m line p d. rw (← (controlled_read p).is, ← e, ← e2, ← e3, ← e4) (c.apply_controlled_pauli.ensures m d) }
