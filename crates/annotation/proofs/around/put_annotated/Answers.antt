use mathlib.Core.Path.{refl, sym, ◌∙◌}
use lib.Seq.{length-take-le}
use Rattle.writer.specs.Laws.Placing.{rest_length}
use Rattle.instructions.specs.Laws.Lines.{left_known, some_read}
use Rattle.annotation.specs.Laws.Annotating.{start_put, put_none, put_stops, fits_few, put_room, put_more, put_all}
use native.Mathlib.Omega.{arith}
use Rattle.annotation.proofs.around.put_annotated.Goals as goal

pub slice_bounds-put_start-end : goal.slice_bounds-put_start-end
slice_bounds-put_start-end c = omega arith

pub put_start-requires : goal.put_start-requires
put_start-requires c = tt

pub loop-at-init : goal.loop-at-init
loop-at-init c = (put_none c.requires, refl, omega arith)

pub next_known-line-requires : goal.next_known-line-requires
next_known-line-requires c = (left_known c.loop-at.invariant.0.left c.loop-at-test.true, omega (arith, c.loop-at.invariant.2))

pub overflow_add-end : goal.overflow_add-end
overflow_add-end c = omega (arith, c.next_known-line.ensures.place.inside, c.loop-at.invariant.0.left.size)

pub noise_qubits-n-requires : goal.noise_qubits-n-requires
noise_qubits-n-requires c = (some_read c.loop-at.invariant.0.left c.next_known-line.ensures, omega (arith, c.loop-at.invariant.1))

pub slice_bounds-qubits-end : goal.slice_bounds-qubits-end
slice_bounds-qubits-end c = omega (arith, c.noise_qubits-n.ensures.few, c.noise_qubits-n.auto, c.loop-at.invariant.1)

pub slice_bounds-over-end : goal.slice_bounds-over-end
slice_bounds-over-end c = sym (length-take-le _ _ (omega (arith, c.noise_qubits-n.ensures.few, c.noise_qubits-n.auto, c.loop-at.invariant.1)))

pub fit-requires : goal.fit-requires
fit-requires c = tt

pub shape_of-out-then-not-fit : goal.shape_of-out-then-not-fit
shape_of-out-then-not-fit c = rest_length c.loop-at.invariant.0.rest

pub returns-then-not-fit : goal.returns-then-not-fit
returns-then-not-fit c = put_stops c.loop-at.invariant.0 c.next_known-line.ensures c.noise_qubits-n.ensures (sym (c.if-not-fit.true) ∙ c.fit.ensures)

pub noise_before-before-requires : goal.noise_before-before-requires
noise_before-before-requires c = tt

pub slice_bounds-put_around-count : goal.slice_bounds-put_around-count
slice_bounds-put_around-count c = omega (arith, c.next_known-line.ensures.place.begins)

pub slice_bounds-put_around-start : goal.slice_bounds-put_around-start
slice_bounds-put_around-start c = omega (arith, c.next_known-line.ensures.place.begins)

pub slice_bounds-put_around-end : goal.slice_bounds-put_around-end
slice_bounds-put_around-end c = omega (arith, c.next_known-line.ensures.place.inside)

pub slice_bounds-put_around-end-in-loop-at : goal.slice_bounds-put_around-end-in-loop-at
slice_bounds-put_around-end-in-loop-at c = omega (arith, c.put_start.auto)

pub put_around-next-requires : goal.put_around-next-requires
put_around-next-requires c =
    let fits = sym (c.if-not-fit.false) ∙ c.fit.ensures in
    (record { probability = _; text = start_put c.args.p c.put_start.ensures c.put_start.auto.out }, fits_few c.loop-at.invariant.0 c.next_known-line.ensures c.noise_qubits-n.ensures fits, put_room c.loop-at.invariant.0 c.next_known-line.ensures c.noise_qubits-n.ensures fits)

pub overflow_add-k : goal.overflow_add-k
overflow_add-k c = omega (arith, c.loop-at.invariant.0.left.number, c.loop-at.invariant.0.left.within, c.loop-at.invariant.0.left.size)

pub loop-at-smaller : goal.loop-at-smaller
loop-at-smaller c = omega (arith, c.next_known-line.ensures.place.begins, c.next_known-line.ensures.place.inside)

pub loop-at-preserved : goal.loop-at-preserved
loop-at-preserved c = (put_more c.loop-at.invariant.0 c.next_known-line.ensures c.noise_qubits-n.ensures _ (sym (c.if-not-fit.false) ∙ c.fit.ensures) c.noise_before-before.ensures (c.put_around-next.ensures _ (start_put c.args.p c.put_start.ensures c.put_start.auto.out)), omega (arith, c.loop-at.invariant.1, c.noise_qubits-n.auto), omega (arith, c.next_known-line.auto, c.loop-at.invariant.2))

pub shape_of-out : goal.shape_of-out
shape_of-out c = rest_length c.loop-at.invariant.0.rest

pub returns : goal.returns
returns c = put_all c.loop-at.invariant.0 c.loop-at-test.false
