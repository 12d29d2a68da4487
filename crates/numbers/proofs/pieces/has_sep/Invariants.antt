-- `numbers::pieces::has_sep` meets its contract. Assumes nothing.
use Prim.Native.Nat.{◌≤◌}
use Rattle.numbers.specs.Laws.Pieces.{Unseen}
use Rattle.numbers.proofs.pieces.has_sep.Given as goal

abbrev pub invariant-loop-i : goal.invariant-loop-i
invariant-loop-i l = (l.i ≤ 16) × Unseen l.sep l.s l.at l.i l.seen
