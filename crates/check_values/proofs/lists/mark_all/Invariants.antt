-- `check_values::lists::mark_all` meets its contract. Assumes nothing.
use Prim.Native.Nat.{◌≤◌}
use lib.ListN.{length}
use Rattle.check_values.specs.Laws.Overlap.{MarkedTo}
use Rattle.check_values.proofs.lists.mark_all.Given as goal

abbrev pub invariant-loop-q : goal.invariant-loop-q
invariant-loop-q l = (l.q-index ≤ length l.members) × MarkedTo (length l.initial.marks) l.members l.q-index l.marks
