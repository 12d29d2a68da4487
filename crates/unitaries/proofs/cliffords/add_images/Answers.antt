use Rattle.unitaries.specs.Laws.Images.{row_below, images_start, images_turn, images_end}
use mathlib.Core.Path.{refl, ◌∙◌}
use native.Mathlib.Omega.{arith}
use Rattle.unitaries.proofs.cliffords.add_images.Goals as goal

pub loop-i-init : goal.loop-i-init
loop-i-init c = (images_start _ _ _ _ _ _, refl, refl)

pub add_image-requires : goal.add_image-requires
add_image-requires c = (c.loop-i.invariant.1 ∙ c.requires.0, c.loop-i.invariant.2 ∙ c.requires.1, c.requires.2, c.requires.3, omega arith, row_below _ _ _ c.requires.4 (omega (arith, c.loop-i-test.true)))

pub overflow_add-k : goal.overflow_add-k
overflow_add-k c = omega arith

pub add_image-requires-in-loop-i : goal.add_image-requires-in-loop-i
add_image-requires-in-loop-i c = (c.add_image.auto.x ∙ c.loop-i.invariant.1 ∙ c.requires.0, c.add_image.auto.z ∙ c.loop-i.invariant.2 ∙ c.requires.1, c.requires.2, c.requires.3, omega arith, row_below _ _ _ c.requires.4 (omega (arith, c.loop-i-test.true)))

pub loop-i-preserved : goal.loop-i-preserved
loop-i-preserved c = (images_turn _ _ _ _ _ _ _ _ _ _ _ _ _ c.loop-i-test.true c.add_image.ensures c.add_image-in-loop-i.ensures c.loop-i.invariant.0, c.add_image-in-loop-i.auto.x ∙ c.add_image.auto.x ∙ c.loop-i.invariant.1, c.add_image-in-loop-i.auto.z ∙ c.add_image.auto.z ∙ c.loop-i.invariant.2)

pub shape_of-x : goal.shape_of-x
shape_of-x c = c.loop-i.invariant.1

pub shape_of-z : goal.shape_of-z
shape_of-z c = c.loop-i.invariant.2

pub returns : goal.returns
returns c = images_end _ _ _ _ _ _ _ _ _ c.loop-i-test.false c.loop-i.invariant.0
