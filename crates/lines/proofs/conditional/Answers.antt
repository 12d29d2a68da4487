-- `lines::conditional` meets its contract. Assumes nothing.
use Rattle.instructions.specs.Laws.Read.{conditional_read}
use Rattle.propagator.specs.Laws.Lists.{sound_in}
use Rattle.job.specs.Sound.{LineSound}
use Rattle.job.proofs.Laws.Lists.{below_more, rising_distinct}
use native.Mathlib.Omega.{arith}
use Rattle.lines.proofs.conditional.Goals as goal

pub list-requires : goal.list-requires
list-requires c = (omega arith, (conditional_read c.requires.0.plain).few 0 (omega arith))

pub list-requires-2 : goal.list-requires-2
list-requires-2 c = (omega arith, (conditional_read c.requires.0.plain).few 1 (omega arith))

pub list-requires-3 : goal.list-requires-3
list-requires-3 c = (omega arith, (conditional_read c.requires.0.plain).few 2 (omega arith))

pub apply_conditional_pauli-requires : goal.apply_conditional_pauli-requires
unfolding LineSound
apply_conditional_pauli-requires c =
    let e = c.list.ensures in
    let e2 = c.list-2.ensures in
    let e3 = c.list-3.ensures in
    let s = (conditional_read c.requires.0.plain).sound in (
      omega (arith, c.requires.1),
      c.requires.0.of_x,
      c.requires.0.of_z,
      c.requires.0.of_deltas,
      rw (e, e2) (sound_in _ _ s.pauli),
      rw e3 (below_more _ _ _ c.requires.0.plain.in_rows s.known.below),
      rw e3 (rising_distinct _ s.known.rising),
    )

pub returns : goal.returns
returns c =
    let e = c.list.ensures in
    let e2 = c.list-2.ensures in
    let e3 = c.list-3.ensures in
    record { acts = λ line p. rw (← (conditional_read p).is, ← e, ← e2, ← e3) (c.apply_conditional_pauli.ensures _) }
