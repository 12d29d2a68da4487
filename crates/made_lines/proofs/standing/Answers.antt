-- `made_lines::standing` meets its contract. Assumes nothing.
use Rattle.made_lines.specs.Laws.Standing.{stays, flip_stands, flip_not}
use Rattle.made_lines.proofs.standing.Goals as goal

pub returns-then-recorded-gt0 : goal.returns-then-recorded-gt0
returns-then-recorded-gt0 c = rw c.in-Flip.is (flip_stands _ _ c.if-recorded-gt0.true)

pub returns-else-recorded-gt0 : goal.returns-else-recorded-gt0
returns-else-recorded-gt0 c = rw c.in-Flip.is (flip_not _ _ c.if-recorded-gt0.false c.standing_recording.ensures)

pub returns-in_default : goal.returns-in_default
returns-in_default c = stays _ _ _ c.in_default.not-Flip c.in_default.not-Measure c.in_default.not-Allocate c.requires
