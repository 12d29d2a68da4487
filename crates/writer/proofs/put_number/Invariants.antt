-- `writer::put_number` meets its contract. Assumes nothing.
use Prim.Native.Nat.{◌≤◌}
use Rattle.writer.specs.Laws.Digits.{Digits}
use Rattle.writer.proofs.put_number.Given as goal

abbrev pub invariant-loop-rest : goal.invariant-loop-rest
invariant-loop-rest l = (l.i ≤ 20) × Digits l.n l.i l.rest l.text

abbrev pub decreases-loop-rest : goal.decreases-loop-rest
decreases-loop-rest l = l.rest
