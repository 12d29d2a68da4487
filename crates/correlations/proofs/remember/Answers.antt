-- `correlations::remember` meets its contract. Assumes nothing.
use Prim.Native.Nat.{ℕ}
use lib.ListN.{length-set}
use Rattle.correlations.specs.Laws.Links.{remainder_below}
use Rattle.correlations.specs.Laws.Loops.{remember_none, remember_one}
use native.Mathlib.Omega.{arith}
use Rattle.correlations.proofs.remember.Goals as goal

pub returns-in_default : goal.returns-in_default
returns-in_default c = remember_none c.requires.0 c.in_default.is

pub offset_bounds-links-first : goal.offset_bounds-links-first
offset_bounds-links-first c = omega (arith, c.remainder-first.ensures, remainder_below c.in-Some.l.correlation)

pub bounds-links-first : goal.bounds-links-first
bounds-links-first c = omega (arith, length-set {A = ℕ}, c.remainder-first.ensures, remainder_below c.in-Some.l.correlation, c.requires.0.room)

pub bounds-links-n : goal.bounds-links-n
bounds-links-n c = omega (arith, c.requires.1.room _ c.in-Some.is, c.requires.0.room)

pub overflow_cast-links : goal.overflow_cast-links
overflow_cast-links c = omega (arith, c.requires.1.room _ c.in-Some.is, c.requires.0.small)

pub offset_bounds-links-first-2 : goal.offset_bounds-links-first-2
offset_bounds-links-first-2 c = omega (arith, c.remainder-first.ensures, remainder_below c.in-Some.l.correlation)

pub bounds-links-first-2 : goal.bounds-links-first-2
bounds-links-first-2 c = rw length-set (omega (arith, c.remainder-first.ensures, remainder_below c.in-Some.l.correlation, c.requires.0.room))

pub bounds-seen-n : goal.bounds-seen-n
bounds-seen-n c = omega (arith, c.requires.1.room _ c.in-Some.is)

pub bounds-sizes-n : goal.bounds-sizes-n
bounds-sizes-n c = omega (arith, c.requires.1.room _ c.in-Some.is, c.requires.0.beside)

pub returns : goal.returns
returns c = rw c.remainder-first.ensures (remember_one c.requires.0 _ c.in-Some.is (c.requires.1.room _ c.in-Some.is) (c.requires.1.fresh _ c.in-Some.is))
