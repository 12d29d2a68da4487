-- `made_lines::other_lines::reset_qubits` meets its contract. Assumes nothing.
use native.Mathlib.Omega.{arith}
use Rattle.made_lines.specs.Laws.Plain.{reset_stretch, reset_one}
use Rattle.made_lines.proofs.other_lines.reset_qubits.Goals as goal

pub returns-then-h-eq-SECOND_EDITION : goal.returns-then-h-eq-SECOND_EDITION
returns-then-h-eq-SECOND_EDITION c = reset_stretch _ _ c.if-h-eq-SECOND_EDITION.true c.stretch.ensures

pub returns : goal.returns
returns c = reset_one _ _ c.args.list.now c.if-h-eq-SECOND_EDITION.false (omega arith) c.pick-a.ensures
