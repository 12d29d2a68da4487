-- `numbers::all_hex` meets its contract. Assumes nothing.
use Prim.Native.Nat.{◌≤◌}
use Rattle.numbers.specs.Laws.Hex.{Tested}
use Rattle.numbers.proofs.all_hex.Given as goal

abbrev pub invariant-loop-i : goal.invariant-loop-i
invariant-loop-i l = (l.i ≤ 16) × Tested l.s l.i l.wrong
