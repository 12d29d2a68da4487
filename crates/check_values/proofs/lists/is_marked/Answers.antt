-- `check_values::lists::is_marked` meets its contract. Assumes nothing.
use Rattle.check_values.proofs.lists.is_marked.Goals as goal

pub returns-then-n-marks : goal.returns-then-n-marks
returns-then-n-marks c = c.requires.is c.args.qubit.0 c.if-n-marks.true
