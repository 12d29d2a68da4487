-- `made_fields::choices::mark` meets its contract. Assumes nothing.
use Prim.Native.Nat.{◌-◌}
use lib.ListN.{length}
use Rattle.made.specs.Choice.{marked}
use Rattle.made_fields.specs.Laws.Lists.{Marking}
use Rattle.made_fields.proofs.choices.mark.Given as goal

abbrev pub invariant-loop-q : goal.invariant-loop-q
invariant-loop-q l = Marking (marked 8 l.top l.from l.m) l.top (length l.initial.list) l.list l.count l.q l.bits (l.q - l.from)
