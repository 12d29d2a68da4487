-- `check_values::clifford::is_clifford` meets its contract. Assumes nothing.
use mathlib.Core.Path.{sym, ◌∙◌}
use Rattle.check_values.specs.Laws.Pairs.{clifford_high, clifford_rows}
use Rattle.check_values.proofs.clifford.is_clifford.Goals as goal

pub returns-then-not-no_more_bits : goal.returns-then-not-no_more_bits
returns-then-not-no_more_bits c = clifford_high _ _ (sym c.no_more_bits.ensures ∙ c.if-not-no_more_bits.true)

pub returns : goal.returns
returns c = c.rows_fit.ensures _ c.rows.ensures ∙ clifford_rows _ _ (sym c.no_more_bits.ensures ∙ c.if-not-no_more_bits.false)
