-- `lines::clifford` meets its contract. Assumes nothing.
use Rattle.lines.specs.Laws.Obey.{scratch_fits}
use Rattle.instructions.specs.Laws.Read.{clifford_read, clifford_table}
use Rattle.job.specs.Sound.{LineSound}
use native.Mathlib.Omega.{arith}
use Rattle.lines.proofs.clifford.Goals as goal

pub list-requires : goal.list-requires
list-requires c = (omega arith, (clifford_read c.requires.0.plain).few 0 (omega arith))

pub list-requires-2 : goal.list-requires-2
list-requires-2 c = (omega arith, (clifford_read c.requires.0.plain).few 1 (omega arith))

pub apply_clifford-requires : goal.apply_clifford-requires
unfolding LineSound
apply_clifford-requires c =
    let p = c.requires in
    let e = c.list.ensures in
    let s = (clifford_read p.0.plain).sound in
    (scratch_fits _ _ (rw e (let few = s.few in omega arith)) p.1, p.0.of_x, p.0.of_z, rw (e, c.list-2.ensures) (clifford_table p.0.plain), rw e s.operands.below)

pub returns : goal.returns
returns c =
    record { acts = λ m line p d. rw (← (clifford_read p).is, ← c.list.ensures, ← c.list-2.ensures) (c.apply_clifford.ensures m d) }
