-- `lines::measure` meets its contract. Assumes nothing.
use Rattle.instructions.specs.Laws.Read.{measure_read}
use Rattle.propagator.specs.Laws.Lists.{sound_in}
use Rattle.job.specs.Sound.{LineSound}
use native.Mathlib.Omega.{arith}
use Rattle.lines.proofs.measure.Goals as goal

pub number-requires : goal.number-requires
number-requires c = omega arith

pub list-requires : goal.list-requires
list-requires c = let plain = c.requires.0.plain in (omega arith, (measure_read plain).few 0 (omega arith))

pub list-requires-2 : goal.list-requires-2
list-requires-2 c = let plain = c.requires.0.plain in (omega arith, (measure_read plain).few 1 (omega arith))

pub measure-requires : goal.measure-requires
unfolding LineSound
measure-requires c =
    let e = c.list.ensures in
    let e2 = c.list-2.ensures in
    let p = c.requires in
    let s = (measure_read p.0.plain).sound in
    (p.0.of_x, p.0.of_z, p.0.of_deltas, rw (e, e2) (sound_in _ _ s.observable), rw c.number.ensures s.outcome.below, p.1)

pub returns : goal.returns
returns c =
    let e = c.list.ensures in
    let e2 = c.list-2.ensures in
    let measured = c.measure.ensures in
    (record { acts = λ line p. rw (← (measure_read p).is, ← e, ← e2, ← c.number.ensures) measured.0 }, measured.1)
