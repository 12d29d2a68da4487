use native.Mathlib.Omega.{arith}
use mathlib.Core.Path.{refl, sym, ◌∙◌}
use Rattle.check_values.specs.Laws.Slots.{each_below, each_fails, each_next, each_end}
use Rattle.check_values.proofs.lists.below.Goals as goal

pub loop-i-init : goal.loop-i-init
loop-i-init c = λ numbers lists vs h g. refl

pub slot_below-requires : goal.slot_below-requires
slot_below-requires c = omega arith

pub returns-then-not-slot_below : goal.returns-then-not-slot_below
returns-then-not-slot_below c =
    λ numbers lists vs h g.
    let here = c.slot_below.ensures numbers lists vs h (omega arith) in
    sym (c.loop-i.invariant numbers lists vs h g ∙ each_fails (each_below _) vs _ _ c.loop-i-test.true (sym here ∙ c.if-not-slot_below.true))

pub loop-i-preserved : goal.loop-i-preserved
loop-i-preserved c =
    λ numbers lists vs h g.
    let here = c.slot_below.ensures numbers lists vs h (omega arith) in
    c.loop-i.invariant numbers lists vs h g ∙ each_next (each_below _) vs _ _ c.loop-i-test.true (sym here ∙ c.if-not-slot_below.false)

pub returns : goal.returns
returns c = λ numbers lists vs h g. sym (c.loop-i.invariant numbers lists vs h g ∙ each_end (each_below _) vs _ _ c.loop-i-test.false)
