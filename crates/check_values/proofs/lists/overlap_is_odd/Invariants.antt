-- `check_values::lists::overlap_is_odd` meets its contract. Assumes nothing.
use Prim.Native.Nat.{◌≤◌}
use lib.ListN.{length}
use Rattle.check_values.specs.Marks.{MarksOf}
use Rattle.check_values.specs.Laws.Overlap.{Counted}
use Rattle.check_values.proofs.lists.overlap_is_odd.Given as goal

abbrev pub invariant-loop-q : goal.invariant-loop-q
invariant-loop-q l = (l.q-index ≤ length l.a) × MarksOf l.marks l.b × Counted l.a l.b l.odd l.q-index
