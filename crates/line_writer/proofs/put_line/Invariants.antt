-- `line_writer::put_line` meets its contract. Assumes nothing.
use Rattle.line_writer.specs.Laws.Line.{Putting}
use Rattle.line_writer.proofs.put_line.Given as goal

abbrev pub invariant-loop-t : goal.invariant-loop-t
invariant-loop-t l = Putting l.template l.numbers l.counts l.members l.at l.initial.out l.t-index l.n l.l l.next l.out
