-- `fault_table::fault_rows::put_kept_rows` meets its contract. Assumes nothing.
use Rattle.fault_table.specs.Rows.{kept_at}
use Rattle.fault_table.specs.Laws.Putting.{RowsFrom}
use Rattle.fault_table.proofs.fault_rows.put_kept_rows.Given as goal

abbrev pub invariant-loop-e : goal.invariant-loop-e
invariant-loop-e l = RowsFrom l.groups l.line l.place l.n (kept_at l.groups l.n l.kept) l.initial.out l.e l.begin l.out
