-- `replay::record::Record::list_start` meets its contract. Assumes nothing.
use Prim.Native.Nat.{◌≤◌}
use Rattle.replay.proofs.record.Record.list_start.Given as goal

abbrev pub invariant-loop-i : goal.invariant-loop-i
invariant-loop-i l = l.at ≤ l.whole
