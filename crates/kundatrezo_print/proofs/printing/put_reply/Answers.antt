-- `kundatrezo_print::printing::put_reply` meets its contract. Assumes nothing.
use mathlib.Core.Path.{sym}
use native.Mathlib.Omega.{arith}
use lib.Seq.{length-take-le}
use Rattle.kundatrezo_print.specs.Laws.Printed.{shots_few, frame_few, outcomes_few, totals_few, lends_zeros}
use Rattle.kundatrezo_print.proofs.printing.put_reply.Goals as goal

pub shape_of-shape-requires : goal.shape_of-shape-requires
shape_of-shape-requires c = omega (arith, shots_few c.requires)

pub overflow_mul-frame : goal.overflow_mul-frame
overflow_mul-frame c = rw c.shape_of-shape.ensures (omega (arith, frame_few c.requires))

pub overflow_mul-outcomes : goal.overflow_mul-outcomes
overflow_mul-outcomes c = rw c.shape_of-shape.ensures (omega (arith, outcomes_few c.requires))

pub slice_bounds-x-end : goal.slice_bounds-x-end
slice_bounds-x-end c = rw c.shape_of-shape.ensures (frame_few c.requires)

pub slice_bounds-put_run-end : goal.slice_bounds-put_run-end
slice_bounds-put_run-end c = rw c.shape_of-shape.ensures (sym (length-take-le _ _ (frame_few c.requires)))

pub slice_bounds-z-end : goal.slice_bounds-z-end
slice_bounds-z-end c = rw c.shape_of-shape.ensures (frame_few c.requires)

pub slice_bounds-put_run-end-2 : goal.slice_bounds-put_run-end-2
slice_bounds-put_run-end-2 c = rw c.shape_of-shape.ensures (sym (length-take-le _ _ (frame_few c.requires)))

pub slice_bounds-deltas-end : goal.slice_bounds-deltas-end
slice_bounds-deltas-end c = rw c.shape_of-shape.ensures (outcomes_few c.requires)

pub slice_bounds-put_run-end-3 : goal.slice_bounds-put_run-end-3
slice_bounds-put_run-end-3 c = rw c.shape_of-shape.ensures (sym (length-take-le _ _ (outcomes_few c.requires)))

pub slice_bounds-totals-end : goal.slice_bounds-totals-end
slice_bounds-totals-end c = rw c.shape_of-shape.ensures (totals_few c.requires)

pub slice_bounds-put_run-end-4 : goal.slice_bounds-put_run-end-4
slice_bounds-put_run-end-4 c = rw c.shape_of-shape.ensures (sym (length-take-le _ _ (totals_few c.requires)))

pub slice_bounds-noiseless-end : goal.slice_bounds-noiseless-end
slice_bounds-noiseless-end c = rw c.shape_of-shape.ensures (outcomes_few c.requires)

pub slice_bounds-put_run-end-5 : goal.slice_bounds-put_run-end-5
slice_bounds-put_run-end-5 c = rw c.shape_of-shape.ensures (sym (length-take-le _ _ (outcomes_few c.requires)))

pub put_run-requires : goal.put_run-requires
put_run-requires c = rw c.shape_of-shape.ensures (c.requires, lends_zeros c.requires)
