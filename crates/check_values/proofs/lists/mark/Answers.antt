-- `check_values::lists::mark` meets its contract. Assumes nothing.
use mathlib.Core.Path.{sym}
use mathlib.Core.Bool.{true}
use lib.Seq.{set_out}
use Rattle.check_values.proofs.lists.mark.Goals as goal

pub returns-else-n-marks : goal.returns-else-n-marks
returns-else-n-marks c = sym (set_out _ _ true c.if-n-marks.false)
