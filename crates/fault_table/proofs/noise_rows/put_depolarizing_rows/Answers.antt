use native.Mathlib.Omega.{arith}
use Rattle.fault_table.specs.Laws.Putting.{rows_none, begins_within, row_room, rows_more, rows_all}
use Rattle.fault_table.specs.Laws.Keeping.{marks_long}
use Rattle.fault_table.proofs.noise_rows.put_depolarizing_rows.Goals as goal

pub loop-e-init : goal.loop-e-init
loop-e-init c = rows_none

pub depolarizing_element-p-requires : goal.depolarizing_element-p-requires
depolarizing_element-p-requires c = (c.requires.5, c.requires.6, omega (arith, c.loop-e-test.true, c.loop-e.invariant.within, c.requires.4))

pub put_element_row-begin-requires : goal.put_element_row-begin-requires
put_element_row-begin-requires c = (c.requires.0, c.requires.1, omega (arith, begins_within c.loop-e.invariant, c.loop-e.invariant.long, c.requires.2), row_room c.loop-e.invariant c.loop-e-test.true c.requires.3)

pub loop-e-preserved : goal.loop-e-preserved
loop-e-preserved c = rows_more c.loop-e.invariant c.loop-e-test.true (marks_long _ _ _) c.put_element_row-begin.auto.out (rw c.depolarizing_element-p.ensures at c.put_element_row-begin.ensures)

pub shape_of-out : goal.shape_of-out
shape_of-out c = c.loop-e.invariant.long

pub returns : goal.returns
returns c = rows_all c.loop-e.invariant (omega (arith, c.loop-e-test.false))
