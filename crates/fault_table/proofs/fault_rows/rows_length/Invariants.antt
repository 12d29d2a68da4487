-- `fault_table::fault_rows::rows_length` meets its contract. Assumes nothing.
use Rattle.fault_table.specs.Laws.Putting.{Counted}
use Rattle.fault_table.proofs.fault_rows.rows_length.Given as goal

abbrev pub invariant-loop-e : goal.invariant-loop-e
invariant-loop-e l = Counted l.groups l.line l.size l.e l.bytes
