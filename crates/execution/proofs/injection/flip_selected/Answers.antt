use Rattle.execution.specs.Laws.Depolarizing.{selected_next, selected_end}
use mathlib.Core.Path.{refl, sym, ◌∙◌}
use native.Mathlib.Omega.{arith}
use Rattle.execution.proofs.injection.flip_selected.Goals as goal

pub loop-q-init : goal.loop-q-init
loop-q-init c = (refl, refl)

pub flip_if-requires : goal.flip_if-requires
flip_if-requires c = (omega (arith, rw (← c.from.ensures) at (c.requires.1.fits _ c.loop-q-test.true), c.loop-q.invariant.1), c.requires.0)

pub loop-q-preserved : goal.loop-q-preserved
loop-q-preserved c = (sym (selected_next _ _ _ _ _ _ c.loop-q-test.true (rw c.from.ensures at c.flip_if.ensures)) ∙ c.loop-q.invariant.0, c.flip_if.auto.rows ∙ c.loop-q.invariant.1)

pub shape_of-rows : goal.shape_of-rows
shape_of-rows c = c.loop-q.invariant.1

pub returns : goal.returns
returns c = sym (selected_end _ _ _ _ _ c.loop-q-test.false) ∙ c.loop-q.invariant.0
