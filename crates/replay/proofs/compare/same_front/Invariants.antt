-- `replay::compare::same_front` meets its contract. Assumes nothing.
use Prim.Native.Nat.{◌≤◌}
use lib.ListN.{length}
use Rattle.std.specs.Iterator.Adapters.{zip_first, zip_second}
use Rattle.std.specs.Slice.Iter.{iter_rest}
use Rattle.replay.specs.Front.{BeginsAs}
use Rattle.replay.proofs.compare.same_front.Given as goal

abbrev pub invariant-loop-a : goal.invariant-loop-a
invariant-loop-a g l =
    let xs = iter_rest (zip_first l.a-iterator) in
    let ys = iter_rest (zip_second l.a-iterator) in
    (length ys ≤ length xs) × (BeginsAs g.T.Into.converts xs ys → BeginsAs g.T.Into.converts l.found l.must)
