use Rattle.unitaries.specs.Laws.Images.{row_below, operand_at, places_start, places_turn, places_end}
use Rattle.propagator.specs.Laws.Lists.{row_in}
use mathlib.Core.Path.{refl, ◌∙◌}
use native.Mathlib.Omega.{arith}
use Rattle.frames.proofs.Laws.Permutation.{test_permutes}
use Rattle.job.proofs.Laws.Lists.{below_at}
use Rattle.unitaries.proofs.cliffords.add_to_places.Goals as goal

pub loop-i-init : goal.loop-i-init
loop-i-init c = (places_start _ _ _ _ _, refl)

pub offset_bounds-places-i : goal.offset_bounds-places-i
offset_bounds-places-i c = omega arith

pub bounds-places-i : goal.bounds-places-i
bounds-places-i c = omega arith

pub qubit_at-qubit-requires : goal.qubit_at-qubit-requires
qubit_at-qubit-requires c = below_at _ _ (test_permutes _ _ c.requires.2).below c.loop-i.i c.loop-i-test.true

pub overflow_mul-q : goal.overflow_mul-q
overflow_mul-q c = omega (arith, rw (← c.qubit_at-qubit.ensures) at (row_in _ _ _ _ (c.loop-i.invariant.1 ∙ c.requires.0) (below_at _ _ c.requires.1 _ (below_at _ _ (test_permutes _ _ c.requires.2).below c.loop-i.i c.loop-i-test.true))))

pub overflow_mul-i : goal.overflow_mul-i
overflow_mul-i c = omega (arith, row_below c.args.shape.width _ c.loop-i.i c.requires.3 (operand_at c.args.places.now c.args.qubits.now _ c.requires.2 c.loop-i-test.true))

pub xor_words-requires : goal.xor_words-requires
xor_words-requires c = (rw c.qubit_at-qubit.ensures (row_in _ _ _ _ (c.loop-i.invariant.1 ∙ c.requires.0) (below_at _ _ c.requires.1 _ (below_at _ _ (test_permutes _ _ c.requires.2).below c.loop-i.i c.loop-i-test.true))), row_below c.args.shape.width _ c.loop-i.i c.requires.3 (operand_at c.args.places.now c.args.qubits.now _ c.requires.2 c.loop-i-test.true))

pub loop-i-preserved : goal.loop-i-preserved
loop-i-preserved c = (places_turn _ _ _ _ _ _ _ _ c.loop-i-test.true (operand_at c.args.places.now c.args.qubits.now _ c.requires.2 c.loop-i-test.true) (row_in _ _ _ _ (c.loop-i.invariant.1 ∙ c.requires.0) (below_at _ _ c.requires.1 _ (below_at _ _ (test_permutes _ _ c.requires.2).below c.loop-i.i c.loop-i-test.true))) (rw c.qubit_at-qubit.ensures at c.xor_words.ensures) c.loop-i.invariant.0, c.xor_words.auto.dst ∙ c.loop-i.invariant.1)

pub shape_of-rows : goal.shape_of-rows
shape_of-rows c = c.loop-i.invariant.1

pub returns : goal.returns
returns c = places_end _ _ _ _ _ _ _ c.loop-i-test.false c.loop-i.invariant.0
