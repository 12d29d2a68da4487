-- `fault_table::groups_back::is_gate` meets its contract. Assumes nothing.
use mathlib.Core.Bool.{true≢false}
use mathlib.Core.Path.{sym}
use Rattle.fault_table.proofs.groups_back.is_gate.Goals as goal

pub returns-in_default : goal.returns-in_default
returns-in_default c = λ e. absurd (true≢false (sym e))
