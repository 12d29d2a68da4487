-- `session_text::put_deltas` meets its contract. Assumes nothing.
use Rattle.session_text.specs.Laws.Lines.{Deltas}
use Rattle.session_text.proofs.put_deltas.Given as goal

abbrev pub invariant-loop-id : goal.invariant-loop-id
invariant-loop-id l = Deltas l.at l.h l.deltas l.n l.initial.out l.id l.next l.out
