use native.Mathlib.Omega.{arith}
use mathlib.Core.Path.{refl}
use Rattle.pauli.proofs.Laws.Set.{summed_more, summed_all}
use Rattle.pauli.proofs.sets.add_set.Goals as goal

pub loop-j-init : goal.loop-j-init
loop-j-init c = record { same = refl; done = λ k h. absurd (omega arith); rest = λ k h. refl }

pub offset_bounds-other-j : goal.offset_bounds-other-j
offset_bounds-other-j c = omega arith

pub bounds-other-j : goal.bounds-other-j
bounds-other-j c = omega arith

pub offset_bounds-set-j : goal.offset_bounds-set-j
offset_bounds-set-j c = omega arith

pub bounds-set-j : goal.bounds-set-j
bounds-set-j c = omega arith

pub bounds-set-j-in-loop-j : goal.bounds-set-j-in-loop-j
bounds-set-j-in-loop-j c = omega arith

pub loop-j-preserved : goal.loop-j-preserved
loop-j-preserved c = summed_more _ _ _ _ c.loop-j.invariant (omega (arith, c.loop-j.invariant.same))

pub shape_of-set : goal.shape_of-set
shape_of-set c = c.loop-j.invariant.same

pub returns : goal.returns
returns c = (c.loop-j.invariant.same, summed_all _ _ _ _ c.loop-j.invariant (omega (arith, c.loop-j.invariant.same)) c.requires)
