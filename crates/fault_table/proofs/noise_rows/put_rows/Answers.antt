-- `fault_table::noise_rows::put_rows` meets its contract. Assumes nothing.
use native.Mathlib.Omega.{arith}
use Rattle.single_faults.specs.Carried.{rows_by}
use Rattle.fault_table.specs.Rows.{rows_bytes}
use Rattle.fault_table.specs.Laws.Kinds.{rows_as, single_held, single_room, single_rows, list_kept, list_few, list_below, spread_few, spread_room, spread_rows, listed_either, no_rows}
use Rattle.fault_table.proofs.noise_rows.put_rows.Goals as goal

pub pauli_at-p-requires : goal.pauli_at-p-requires
pauli_at-p-requires c = single_held c.requires c.in-Single.is

pub put_element_row-requires : goal.put_element_row-requires
unfolding rows_bytes
put_element_row-requires c = let q = c.requires in (q.few, q.words_of_groups, q.within, omega (arith, single_room q c.in-Single.is))

pub list-requires : goal.list-requires
list-requires c = (omega arith, list_kept c.requires c.in-Depolarizing.is)

pub put_depolarizing_rows-requires : goal.put_depolarizing_rows-requires
put_depolarizing_rows-requires c = let q = c.requires in let e = c.in-Depolarizing.is in let s = c.size-n.ensures in (q.few, q.words_of_groups, q.within, spread_room q e s, spread_few q e s, rw c.list.ensures (list_few q e), rw c.list.ensures (list_below q e))

pub put_kept_rows-requires : goal.put_kept_rows-requires
put_kept_rows-requires c = let q = c.requires in let l = listed_either q c.size-n-in-Uniform.ensures c.in-Uniform.is in (q.few, l.few, q.bytes_kept, q.within, l.room)

pub returns-in-Single : goal.returns-in-Single
unfolding rows_by
returns-in-Single c = λ q. rows_as (single_rows q c.in-Single.is c.pauli_at-p.ensures) c.put_element_row.ensures

pub returns-in-Depolarizing : goal.returns-in-Depolarizing
returns-in-Depolarizing c = λ q. rows_as (spread_rows q c.in-Depolarizing.is c.size-n.ensures) (rw c.list.ensures at c.put_depolarizing_rows.ensures)

pub returns-in-Uniform : goal.returns-in-Uniform
returns-in-Uniform c = λ q. rows_as (listed_either q c.size-n-in-Uniform.ensures c.in-Uniform.is).rows c.put_kept_rows.ensures

pub returns-in_default : goal.returns-in_default
returns-in_default c = λ q. no_rows q c.in_default.not-Single c.in_default.not-Depolarizing c.in_default.not-Uniform c.in_default.not-Weighted
