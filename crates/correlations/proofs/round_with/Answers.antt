-- `correlations::round_with` meets its contract. Assumes nothing.
use mathlib.Core.Path.{refl, sym, ◌∙◌}
use lib.Seq.{length-take-le}
use Rattle.correlations.specs.Laws.Loops.{round_stops, round_goes_on}
use native.Mathlib.Omega.{arith}
use Rattle.correlations.proofs.round_with.Goals as goal

pub returns-in-Err : goal.returns-in-Err
returns-in-Err c = round_stops c.in-Err.ensures c.requires.1

pub slice_bounds-compare-end : goal.slice_bounds-compare-end
slice_bounds-compare-end c = (c.in-Ok.ensures.goes_on _ refl).0.holds.few

pub slice_bounds-compare-end-2 : goal.slice_bounds-compare-end-2
slice_bounds-compare-end-2 c = sym (length-take-le _ _ (c.in-Ok.ensures.goes_on _ refl).0.holds.few)

pub slice_bounds-compare-end-3 : goal.slice_bounds-compare-end-3
slice_bounds-compare-end-3 c = let h = (c.in-Ok.ensures.goes_on _ refl).0.holds in omega (arith, h.few, h.beside)

pub slice_bounds-compare-end-4 : goal.slice_bounds-compare-end-4
slice_bounds-compare-end-4 c = let h = (c.in-Ok.ensures.goes_on _ refl).0.holds in sym (length-take-le _ _ (omega (arith, h.few, h.beside)))

pub compare-differing-requires : goal.compare-differing-requires
compare-differing-requires c = let g = (c.in-Ok.ensures.goes_on _ refl).0 in let h = g.holds in (g.left, length-take-le _ _ h.few ∙ sym (length-take-le _ _ (omega (arith, h.few, h.beside))), h.linked)

pub returns : goal.returns
returns c = round_goes_on c.in-Ok.ensures c.compare-differing.ensures
