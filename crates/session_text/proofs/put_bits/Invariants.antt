-- `session_text::put_bits` meets its contract. Assumes nothing.
use Rattle.rows.specs.Words.{words_per_row, bit_in}
use Rattle.session_text.specs.Laws.Lines.{Bits}
use Rattle.session_text.proofs.put_bits.Given as goal

abbrev pub invariant-loop-s : goal.invariant-loop-s
invariant-loop-s l = Bits l.at (bit_in (words_per_row l.shots) l.deltas l.id.0) l.shots l.initial.out l.s l.next l.out
