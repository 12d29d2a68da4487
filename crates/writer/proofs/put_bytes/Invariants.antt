-- `writer::put_bytes` meets its contract. Assumes nothing.
use Prim.Native.Nat.{◌-◌, ◌≤◌}
use Rattle.writer.specs.Laws.Placing.{Copied}
use Rattle.writer.proofs.put_bytes.Given as goal

abbrev pub invariant-loop-i : goal.invariant-loop-i
invariant-loop-i l = (l.i ≤ l.n) × Copied l.at l.s l.initial.out l.i l.out
