-- `writer::put_hex` meets its contract. Assumes nothing.
use Prim.Native.Nat.{◌≤◌}
use Rattle.writer.specs.Laws.Digits.{Hexes}
use Rattle.writer.proofs.put_hex.Given as goal

abbrev pub invariant-loop-i : goal.invariant-loop-i
invariant-loop-i l = (l.i ≤ 16) × Hexes l.n l.i l.rest l.digits
