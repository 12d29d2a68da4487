-- `check_lines::noise_lines::size_number` meets its contract. Assumes nothing.
use mathlib.Core.Path.{sym, ◌∙◌}
use borrow.Author.Tests.{eq-eqb, ne_eqb}
use Rattle.check_values.specs.Laws.Lowest.{none_bad, fails, passes}
use Rattle.check_lines.proofs.noise_lines.size_number.Goals as goal

pub returns-then-number-size : goal.returns-then-number-size
returns-then-number-size c = λ numbers lists vs h m. fails 21 _ _ (ne_eqb _ _ (λ e. c.if-number-size.true (c.number.ensures ∙ h.number _ m ∙ e)))

pub returns : goal.returns
returns c = λ numbers lists vs h m. none_bad ∙ passes 21 _ _ (eq-eqb _ _ (sym (c.number.ensures ∙ h.number _ m) ∙ c.if-number-size.false))
