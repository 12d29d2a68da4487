-- `made_fields::choices::cyclic` meets its contract. Assumes nothing.
use lib.ListN.{length}
use Rattle.made_fields.specs.Laws.Lists.{Cycling}
use Rattle.made_fields.proofs.choices.cyclic.Given as goal

abbrev pub invariant-loop-i : goal.invariant-loop-i
invariant-loop-i l = Cycling l.k l.n l.a (length l.initial.list) l.list l.i
