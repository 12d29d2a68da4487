-- `fault_table::fault_rows::put_row` meets its contract. Assumes nothing.
use native.Mathlib.Omega.{arith}
use lib.ListN.{length}
use Rattle.text.specs.Bytes.{bytes}
use Rattle.fault_table.specs.Laws.Putting.{row_bytes_lem, start_length, row_lent, row_values, row_put}
use Rattle.writer.specs.Laws.Lists.{decimal_length}
use Rattle.fault_table.proofs.fault_rows.put_row.Goals as goal

pub row_rest-requires : goal.row_rest-requires
row_rest-requires c = c.requires.0

pub digits-requires : goal.digits-requires
digits-requires c = tt

pub overflow_add-begin : goal.overflow_add-begin
overflow_add-begin c = omega (arith, c.row_rest.ensures, c.digits.ensures, decimal_length c.args.line, decimal_length c.args.e, c.requires.0)

pub overflow_sub-begin : goal.overflow_sub-begin
overflow_sub-begin c = omega (arith, c.row_rest.ensures, c.digits.ensures, row_bytes_lem (length c.args.marks.now) c.args.line c.args.e, c.requires.2)

pub put_numbers-next-requires : goal.put_numbers-next-requires
unfolding bytes
put_numbers-next-requires c =
    let a = c.args in
    (row_lent a.line a.e, rw (row_values a.line a.e) (omega (arith, start_length a.line a.e, c.row_rest.ensures, c.digits.ensures, row_bytes_lem (length c.args.marks.now) c.args.line c.args.e, c.requires.2)))

pub put_bytes-end-requires : goal.put_bytes-end-requires
unfolding bytes
put_bytes-end-requires c =
    let a = c.args in
    let put = rw (row_values a.line a.e) at c.put_numbers-next.ensures in
    omega (arith, put.place, start_length a.line a.e, c.row_rest.ensures, c.digits.ensures, row_bytes_lem (length c.args.marks.now) c.args.line c.args.e, c.requires.2)

pub put_byte-requires : goal.put_byte-requires
unfolding bytes
put_byte-requires c =
    let a = c.args in
    let put = rw (row_values a.line a.e) at c.put_numbers-next.ensures in
    omega (arith, c.put_bytes-end.ensures.place, put.place, start_length a.line a.e, c.row_rest.ensures, c.digits.ensures, row_bytes_lem (length c.args.marks.now) c.args.line c.args.e, c.requires.2)

pub returns : goal.returns
unfolding bytes
returns c =
    let a = c.args in
    let put = rw (row_values a.line a.e) at c.put_numbers-next.ensures in
    row_put a.line a.e put c.put_bytes-end.ensures c.put_byte.ensures (omega (arith, c.row_rest.ensures, c.digits.ensures, row_bytes_lem (length c.args.marks.now) c.args.line c.args.e, c.requires.2)) c.requires.1
