use native.Mathlib.Omega.{arith}
use mathlib.Core.Path.{refl, sym, ◌∙◌}
use Rattle.check_values.specs.Laws.Slots.{twice, once, distinct_end, rest_whole}
use Rattle.check_values.proofs.lists.distinct.Goals as goal

pub loop-i-init : goal.loop-i-init
loop-i-init c = (omega arith, refl)

pub offset_bounds-members-i : goal.offset_bounds-members-i
offset_bounds-members-i c = omega arith

pub bounds-members-i : goal.bounds-members-i
bounds-members-i c = omega arith

pub slice_bounds-contains-count : goal.slice_bounds-contains-count
slice_bounds-contains-count c = omega arith

pub slice_bounds-contains-start : goal.slice_bounds-contains-start
slice_bounds-contains-start c = omega arith

pub slice_bounds-contains-end : goal.slice_bounds-contains-end
slice_bounds-contains-end c = omega arith

pub contains-requires : goal.contains-requires
contains-requires c = tt

pub returns-then-contains : goal.returns-then-contains
returns-then-contains c = sym (c.loop-i.invariant.1 ∙ twice _ _ c.loop-i-test.true (sym (rw rest_whole at c.contains.ensures) ∙ c.if-contains.true))

pub loop-i-preserved : goal.loop-i-preserved
loop-i-preserved c = (omega arith, c.loop-i.invariant.1 ∙ once _ _ c.loop-i-test.true (sym (rw rest_whole at c.contains.ensures) ∙ c.if-contains.false))

pub returns : goal.returns
returns c = sym (c.loop-i.invariant.1 ∙ distinct_end _ _ c.loop-i-test.false)
