-- `blocks::round` meets its contract: after a turns the first a groups are done, and the others as they were.
use Prim.Native.Nat.{◌≤◌}
use Rattle.blocks.specs.Laws.Round.{RoundTo}
use Rattle.blocks.proofs.round.Given as goal

abbrev pub invariant-loop-a : goal.invariant-loop-a
invariant-loop-a l = RoundTo l.h l.mask l.a l.initial.block l.block × (l.a ≤ l.n)
