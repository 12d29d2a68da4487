use mathlib.Core.Path.{sym}
use Prim.Native.Nat.{◌-◌}
use Rattle.correlations.specs.Laws.Links.{remainder_below, sought_first, sought_here, sought_next, sought_end, place_here, place_none}
use native.Mathlib.Omega.{arith}
use Rattle.correlations.proofs.place.Goals as goal

pub remainder-first-requires : goal.remainder-first-requires
remainder-first-requires c = tt

pub offset_bounds-links-first : goal.offset_bounds-links-first
offset_bounds-links-first c = omega (arith, c.remainder-first.ensures, remainder_below c.args.correlation)

pub bounds-links-first : goal.bounds-links-first
bounds-links-first c = omega (arith, c.remainder-first.ensures, remainder_below c.args.correlation, c.requires.room)

pub loop-link-init : goal.loop-link-init
loop-link-init c = rw c.remainder-first.ensures (sought_first c.requires _)

pub overflow_cast-i : goal.overflow_cast-i
overflow_cast-i c = omega (arith, c.loop-link.invariant.within)

pub overflow_sub-i : goal.overflow_sub-i
overflow_sub-i c = omega (arith, c.loop-link-test.true)

pub offset_bounds-seen-i : goal.offset_bounds-seen-i
offset_bounds-seen-i c = omega (arith, c.loop-link.invariant.within)

pub bounds-seen-i : goal.bounds-seen-i
bounds-seen-i c = omega (arith, c.loop-link.invariant.within, c.loop-link-test.true)

pub returns-then-seen-i : goal.returns-then-seen-i
returns-then-seen-i c =
    let here = sought_here c.requires _ (c.loop-link.link - 1) c.loop-link.invariant (omega (arith, c.loop-link-test.true)) c.if-seen-i.true in
    place_here here (omega (arith, c.loop-link.invariant.within, c.loop-link-test.true))

pub overflow_add-link : goal.overflow_add-link
overflow_add-link c = omega (arith, c.loop-link.invariant.within, c.requires.room)

pub offset_bounds-links-i : goal.offset_bounds-links-i
offset_bounds-links-i c = omega (arith, c.loop-link.invariant.within, c.requires.room)

pub bounds-links-i : goal.bounds-links-i
bounds-links-i c = omega (arith, c.loop-link.invariant.within, c.loop-link-test.true, c.requires.room)

pub loop-link-smaller : goal.loop-link-smaller
loop-link-smaller c = omega (arith, c.loop-link-test.true, (c.requires.next (c.loop-link.link - 1) (omega (arith, c.loop-link.invariant.within, c.loop-link-test.true))).within)

pub loop-link-preserved : goal.loop-link-preserved
loop-link-preserved c = sought_next c.requires _ (c.loop-link.link - 1) c.loop-link.invariant (omega (arith, c.loop-link-test.true)) c.if-seen-i.false

pub returns : goal.returns
returns c = place_none (sym (sought_end c.requires _ c.loop-link.invariant c.loop-link-test.false))
