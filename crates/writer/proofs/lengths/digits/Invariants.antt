-- `writer::lengths::digits` meets its contract. Assumes nothing.
use Rattle.writer.specs.Laws.Lengths.{Counted}
use Rattle.writer.proofs.lengths.digits.Given as goal

abbrev pub invariant-loop-rest : goal.invariant-loop-rest
invariant-loop-rest l = Counted l.n l.rest l.count

abbrev pub decreases-loop-rest : goal.decreases-loop-rest
decreases-loop-rest l = l.rest
