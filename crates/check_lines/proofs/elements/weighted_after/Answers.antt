-- `check_lines::elements::weighted_after` meets its contract. Assumes nothing.
use Rattle.std.proofs.Common.{inl, inr}
use Rattle.instructions.specs.Reading.{has_total}
use mathlib.Core.Path.{sym, ap}
use Rattle.check_lines.specs.Laws.Elements.{no_total_after, total_first, total_more}
use Rattle.instructions.specs.Laws.Meaning.{meaning}
use Rattle.check_lines.proofs.elements.weighted_after.Goals as goal

pub returns-in-Weighted : goal.returns-in-Weighted
unfolding has_total
returns-in-Weighted c = λ d vs w h x.
    elim c.in-Weighted.is [
      | inl e ↦ sym (ap has_total (total_first d vs w (rw e at h)))
      | inr e ↦ let (t, p, q) = total_more d vs w (rw e at h) x in sym (ap has_total q)
    ]

pub returns-in_default : goal.returns-in_default
unfolding has_total
returns-in_default c = λ d vs w h x.
    sym (ap has_total (no_total_after d c.args.form c.in_default.not-Weighted c.in_default.not-WeightedElement w (meaning _ vs w h) x))
