-- `fault_table::noise_rows::is_wide` meets its contract. Assumes nothing.
use mathlib.Core.Path.{◌∙◌, ap}
use lib.Dec.{ltb}
use Rattle.fault_table.specs.Laws.Kinds.{wide_by, not_wide}
use Rattle.fault_table.proofs.noise_rows.is_wide.Goals as goal

pub returns-in-Depolarizing : goal.returns-in-Depolarizing
returns-in-Depolarizing c = λ vs w s. ap (ltb 4) c.count.ensures ∙ wide_by c.in-Depolarizing.is s

pub returns-in_default : goal.returns-in_default
returns-in_default c = λ vs w s. not_wide c.in_default.not-Depolarizing s
