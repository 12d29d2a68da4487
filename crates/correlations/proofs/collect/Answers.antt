use mathlib.Core.Path.{refl, sym, ◌∙◌}
use lib.ListN.{length}
use Rattle.std.proofs.lemmas.Result.{err_from_is_err_and}
use lib.Seq.{length-take-le}
use Rattle.instructions.specs.Laws.Lines.{left_known}
use Rattle.correlations.specs.Laws.Loops.{full, room_for, collect_none, collect_stops, collect_more, collect_ends}
use native.Mathlib.Omega.{arith}
use Rattle.correlations.proofs.collect.Goals as goal

pub loop-at-init : goal.loop-at-init
loop-at-init c = (collect_none c.requires.0 c.requires.3, refl, refl, refl, omega arith)

pub next_known-line-requires : goal.next_known-line-requires
next_known-line-requires c = (left_known c.loop-at.invariant.0.left c.loop-at-test.true, omega (arith, c.loop-at.invariant.4))

pub look-requires : goal.look-requires
look-requires c = (length-take-le _ _ c.loop-at.invariant.0.holds.few ∙ sym (length-take-le _ _ (omega (arith, c.loop-at.invariant.0.holds.few, c.loop-at.invariant.0.holds.beside))), c.loop-at.invariant.0.holds.linked)

pub shape_of-seen-in_err-new : goal.shape_of-seen-in_err-new
shape_of-seen-in_err-new c = c.loop-at.invariant.1

pub shape_of-sizes-in_err-new : goal.shape_of-sizes-in_err-new
shape_of-sizes-in_err-new c = c.loop-at.invariant.2

pub shape_of-links-in_err-new : goal.shape_of-links-in_err-new
shape_of-links-in_err-new c = c.loop-at.invariant.3

pub returns-in_err-new : goal.returns-in_err-new
returns-in_err-new c = let p = err_from_is_err_and c.from_residual.result c.from_residual.ensures.1 in rw (p.1, p.2) (collect_stops c.loop-at.invariant.0 c.next_known-line.ensures c.in_err-new.ensures)

pub is_full-requires : goal.is_full-requires
is_full-requires c = tt

pub shape_of-seen-then-is_full : goal.shape_of-seen-then-is_full
shape_of-seen-then-is_full c = c.loop-at.invariant.1

pub shape_of-sizes-then-is_full : goal.shape_of-sizes-then-is_full
shape_of-sizes-then-is_full c = c.loop-at.invariant.2

pub shape_of-links-then-is_full : goal.shape_of-links-then-is_full
shape_of-links-then-is_full c = c.loop-at.invariant.3

pub returns-then-is_full : goal.returns-then-is_full
returns-then-is_full c = collect_ends c.loop-at.invariant.0 (omega (arith, full _ c.loop-at.n (length c.loop-at.seen) (sym c.is_full.ensures ∙ c.if-is_full.true), c.loop-at.invariant.1, c.loop-at.invariant.0.onward, c.requires.2))

pub remember-n-requires : goal.remember-n-requires
remember-n-requires c = (c.loop-at.invariant.0.holds, room_for c.in_ok-new.ensures c.loop-at.invariant.0.holds.few (sym c.is_full.ensures ∙ c.if-is_full.false))

pub overflow_add-at : goal.overflow_add-at
overflow_add-at c = omega (arith, c.next_known-line.ensures.place.inside, c.loop-at.invariant.0.left.size)

pub overflow_add-k : goal.overflow_add-k
overflow_add-k c = omega (arith, c.loop-at.invariant.0.left.number, c.loop-at.invariant.0.left.within, c.loop-at.invariant.0.left.size)

pub loop-at-smaller : goal.loop-at-smaller
loop-at-smaller c = omega (arith, c.next_known-line.ensures.place.inside, c.next_known-line.ensures.place.begins)

pub loop-at-preserved : goal.loop-at-preserved
loop-at-preserved c = (collect_more c.loop-at.invariant.0 c.next_known-line.ensures c.in_ok-new.ensures c.remember-n.ensures, c.remember-n.auto.seen ∙ c.loop-at.invariant.1, c.remember-n.auto.sizes ∙ c.loop-at.invariant.2, c.remember-n.auto.links ∙ c.loop-at.invariant.3, omega (arith, c.next_known-line.auto, c.loop-at.invariant.4))

pub shape_of-seen : goal.shape_of-seen
shape_of-seen c = c.loop-at.invariant.1

pub shape_of-sizes : goal.shape_of-sizes
shape_of-sizes c = c.loop-at.invariant.2

pub shape_of-links : goal.shape_of-links
shape_of-links c = c.loop-at.invariant.3

pub returns : goal.returns
returns c = collect_ends c.loop-at.invariant.0 (omega (arith, c.loop-at-test.false, c.requires.1))
