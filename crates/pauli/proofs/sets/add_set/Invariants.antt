-- `pauli::sets::add_set` meets its contract. The loop's invariant: the first j words are sums, the others are as before.
use Rattle.pauli.proofs.Laws.Set.{Summed}
use Rattle.pauli.proofs.sets.add_set.Given as goal

abbrev pub invariant-loop-j : goal.invariant-loop-j
invariant-loop-j l = Summed l.initial.set l.other l.j l.set
