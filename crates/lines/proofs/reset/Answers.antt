-- `lines::reset` meets its contract. Assumes nothing.
use Rattle.instructions.specs.Laws.Read.{reset_read}
use Rattle.job.specs.Sound.{LineSound}
use native.Mathlib.Omega.{arith}
use Rattle.lines.proofs.reset.Goals as goal

pub list-requires : goal.list-requires
list-requires c = (omega arith, (reset_read c.requires.plain).few 0 (omega arith))

pub reset_qubits-requires : goal.reset_qubits-requires
unfolding LineSound
reset_qubits-requires c =
    (c.requires.of_x, c.requires.of_z, rw c.list.ensures (reset_read c.requires.plain).sound.operands.below)

pub returns : goal.returns
returns c = record { acts = λ m line p d. rw (← (reset_read p).is, ← c.list.ensures) (c.reset_qubits.ensures m d) }
