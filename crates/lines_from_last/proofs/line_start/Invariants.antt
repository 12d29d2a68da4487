-- `lines_from_last::line_start` meets its contract. Assumes nothing.
use Prim.Native.Nat.{◌≤◌}
use Rattle.text.specs.Written.{Free}
use Rattle.instructions.specs.Reading.{line_at}
use Rattle.lines_from_last.proofs.line_start.Given as goal

abbrev pub invariant-loop-i : goal.invariant-loop-i
invariant-loop-i l = (l.i ≤ l.e) × Free 10 (line_at l.job l.i l.e)

abbrev pub decreases-loop-i : goal.decreases-loop-i
decreases-loop-i l = l.i
