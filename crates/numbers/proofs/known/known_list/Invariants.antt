-- `numbers::known::known_list` meets its contract. Assumes nothing.
use Prim.Native.Nat.{◌-◌}
use lib.ListN.{length}
use Rattle.numbers.specs.Laws.Known.{KnownSoFar}
use Rattle.numbers.proofs.known.known_list.Given as goal

abbrev pub invariant-loop-list : goal.invariant-loop-list
invariant-loop-list l = KnownSoFar l.s l.from l.initial.out l.list l.at l.out

abbrev pub decreases-loop-list : goal.decreases-loop-list
decreases-loop-list l = length l.s - l.at
