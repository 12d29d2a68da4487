-- `fault_table::line_bytes` meets its contract. Assumes nothing.
use mathlib.Core.Path.{sym, ◌∙◌}
use Rattle.fault_table.specs.Laws.Measuring.{noise_bytes, no_bytes, noise_few}
use Rattle.fault_table.proofs.line_bytes.Goals as goal

pub returns-then-not-is_noise : goal.returns-then-not-is_noise
returns-then-not-is_noise c = λ vs w s. no_bytes _ _ (sym c.is_noise.ensures ∙ c.if-not-is_noise.true) vs w s

pub rows_length-requires : goal.rows_length-requires
rows_length-requires c = (c.requires.0, noise_few (sym c.is_noise.ensures ∙ c.if-not-is_noise.false) c.size.ensures c.requires.1)

pub returns : goal.returns
returns c = λ vs w s. c.rows_length.ensures ∙ noise_bytes _ _ (sym c.is_noise.ensures ∙ c.if-not-is_noise.false) c.size.ensures vs w s
