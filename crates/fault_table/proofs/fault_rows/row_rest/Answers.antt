-- `fault_table::fault_rows::row_rest` meets its contract. Assumes nothing.
use native.Mathlib.Omega.{arith}
use Rattle.writer.specs.Laws.Lists.{decimal_length}
use Rattle.fault_table.proofs.fault_rows.row_rest.Goals as goal

pub digits-requires : goal.digits-requires
digits-requires c = tt

pub overflow_add-result : goal.overflow_add-result
overflow_add-result c = omega (arith, c.digits.ensures, decimal_length c.args.line, c.requires)

pub overflow_add-result-2 : goal.overflow_add-result-2
overflow_add-result-2 c = omega (arith, c.digits.ensures, decimal_length c.args.line, c.requires)
