-- `choice::element_by` meets its contract. The invariant: the sums passed are all below u, and the last is not among them.
use Prim.Native.Nat.{◌-◌}
use lib.ListN.{length}
use Rattle.choice.specs.Laws.Sums.{BelowUpTo}
use Rattle.choice.proofs.element_by.Given as goal

abbrev pub invariant-loop-i : goal.invariant-loop-i
invariant-loop-i l = BelowUpTo l.u l.sums l.i

abbrev pub decreases-loop-i : goal.decreases-loop-i
decreases-loop-i l = length l.sums - l.i
