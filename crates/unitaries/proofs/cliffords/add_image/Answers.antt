use Rattle.propagator.specs.Laws.Lists.{row_in}
use mathlib.Core.Path.{refl, ◌∙◌}
use Rattle.unitaries.specs.Laws.Images.{row_part, row_starts, row_turn, image_acts}
use native.Mathlib.Omega.{arith}
use Rattle.job.proofs.Laws.Lists.{below_at}
use Rattle.unitaries.proofs.cliffords.add_image.Goals as goal

pub row-row-requires : goal.row-row-requires
row-row-requires c = (c.requires.2, c.requires.4)

pub loop-j-init : goal.loop-j-init
loop-j-init c = (row_starts _ _ _ _ _ _, row_starts _ _ _ _ _ _, refl, refl)

pub qubit_at-q-requires : goal.qubit_at-q-requires
qubit_at-q-requires c = omega arith

pub overflow_shr-row : goal.overflow_shr-row
overflow_shr-row c = omega (arith, c.requires.2.few)

pub add_row_if-requires : goal.add_row_if-requires
add_row_if-requires c = (rw c.qubit_at-q.ensures (row_in _ _ _ _ (c.loop-j.invariant.2 ∙ c.requires.0) (below_at _ _ c.requires.3 _ c.loop-j-test.true)), c.requires.5)

pub overflow_add-k : goal.overflow_add-k
overflow_add-k c = omega (arith, c.requires.2.few)

pub overflow_shr-row-in-loop-j : goal.overflow_shr-row-in-loop-j
overflow_shr-row-in-loop-j c = omega (arith, c.requires.2.few)

pub add_row_if-requires-in-loop-j : goal.add_row_if-requires-in-loop-j
add_row_if-requires-in-loop-j c = (rw c.qubit_at-q.ensures (row_in _ _ _ _ (c.loop-j.invariant.3 ∙ c.requires.1) (below_at _ _ c.requires.3 _ c.loop-j-test.true)), c.requires.5)

pub loop-j-preserved : goal.loop-j-preserved
loop-j-preserved c =
    let j = c.loop-j-test.true in
    let e = c.qubit_at-q.ensures in
    let row = c.row-row.ensures in (
      row_turn _ _ _ _ _ _ _ _ _ _ j (row_part _ _ _ _ row (omega arith)) (rw e at c.add_row_if.ensures) c.loop-j.invariant.0,
      row_turn _ _ _ _ _ _ _ _ _ _ j (row_part _ _ _ _ row (omega arith)) (rw e at c.add_row_if-in-loop-j.ensures) c.loop-j.invariant.1,
      c.add_row_if.auto.dst ∙ c.loop-j.invariant.2,
      c.add_row_if-in-loop-j.auto.dst ∙ c.loop-j.invariant.3,
    )

pub shape_of-x : goal.shape_of-x
shape_of-x c = c.loop-j.invariant.2

pub shape_of-z : goal.shape_of-z
shape_of-z c = c.loop-j.invariant.3

pub returns : goal.returns
returns c = λ d. image_acts _ _ _ _ _ _ _ _ d _ _ _ c.loop-j-test.false c.loop-j.invariant.0 c.loop-j.invariant.1
