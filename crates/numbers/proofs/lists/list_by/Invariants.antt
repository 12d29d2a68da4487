-- `numbers::lists::list_by` meets its contract. Assumes nothing.
use Prim.Native.Nat.{◌-◌, ◌≤◌}
use lib.ListN.{length}
use Rattle.text.specs.List.{piece_of}
use Rattle.numbers.specs.Laws.Lists.{SoFar}
use Rattle.numbers.proofs.lists.list_by.Given as goal

abbrev pub invariant-loop-n : goal.invariant-loop-n
invariant-loop-n l = (l.at ≤ length l.s) × SoFar (piece_of l.hex) l.s l.initial.out l.l l.at l.out

abbrev pub decreases-loop-n : goal.decreases-loop-n
decreases-loop-n l = length l.s - l.at
