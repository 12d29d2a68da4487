use native.Mathlib.Omega.{arith}
use Prim.Native.Nat.{◌-◌}
use Rattle.fault_table.specs.Laws.Putting.{counted_none, counted_more, counted_all, counted_small}
use Rattle.writer.specs.Laws.Lists.{decimal_length}
use Rattle.fault_table.proofs.fault_rows.rows_length.Goals as goal

pub row_rest-rest-requires : goal.row_rest-rest-requires
row_rest-rest-requires c = omega arith

pub loop-e-init : goal.loop-e-init
loop-e-init c = counted_none

pub digits-requires : goal.digits-requires
digits-requires c = tt

pub overflow_add-bytes : goal.overflow_add-bytes
overflow_add-bytes c = omega (arith, c.row_rest-rest.ensures, c.digits.ensures, decimal_length c.args.line, decimal_length (c.loop-e.e - 1), c.requires.0)

pub overflow_add-bytes-in-loop-e : goal.overflow_add-bytes-in-loop-e
overflow_add-bytes-in-loop-e c = omega (arith, c.row_rest-rest.ensures, c.digits.ensures, decimal_length c.args.line, decimal_length (c.loop-e.e - 1), c.requires.0, c.requires.1, counted_small c.loop-e.invariant c.requires.0)

pub loop-e-preserved : goal.loop-e-preserved
loop-e-preserved c = counted_more c.loop-e.invariant c.loop-e-test.true c.row_rest-rest.ensures c.digits.ensures

pub returns : goal.returns
returns c = counted_all c.loop-e.invariant (omega (arith, c.loop-e-test.false))
