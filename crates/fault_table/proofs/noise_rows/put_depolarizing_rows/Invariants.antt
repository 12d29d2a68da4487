-- `fault_table::noise_rows::put_depolarizing_rows` meets its contract. Assumes nothing.
use Prim.Native.Nat.{ℕ}
use Rattle.draws.specs.Draws.{depolarizing_element_of}
use Rattle.fault_table.specs.Lent.{all_carried}
use Rattle.fault_table.specs.Laws.Putting.{RowsFrom}
use Rattle.fault_table.specs.Said.{marks_of}
use Rattle.fault_table.proofs.noise_rows.put_depolarizing_rows.Given as goal

abbrev pub invariant-loop-e : goal.invariant-loop-e
invariant-loop-e l = RowsFrom l.groups l.line l.place l.n (λ (i : ℕ). marks_of (all_carried l.groups l.state) (depolarizing_element_of l.qubits i)) l.initial.out l.e l.begin l.out
