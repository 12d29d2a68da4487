-- `writer::put_commas` meets its contract. Assumes nothing.
use Prim.Native.Nat.{◌-◌}
use lib.ListN.{length}
use Rattle.writer.specs.Laws.Lists.{Listing}
use Rattle.writer.proofs.put_commas.Given as goal

abbrev pub invariant-loop-n : goal.invariant-loop-n
invariant-loop-n l = Listing l.at l.l l.initial.out l.n-index l.out l.next
