-- `unitaries::gates::apply_cnot` meets its contract.
use Rattle.propagator.specs.Laws.Lists.{row_in}
use mathlib.Core.Path.{sym}
use Rattle.unitaries.specs.Laws.Gates.{cnot_acts}
use Rattle.unitaries.proofs.gates.apply_cnot.Goals as goal

pub add_row-requires : goal.add_row-requires
add_row-requires c = (row_in _ _ _ _ c.requires.0 c.requires.3, row_in _ _ _ _ c.requires.0 c.requires.2, λ e. c.requires.4 (sym e))

pub add_row-requires-2 : goal.add_row-requires-2
add_row-requires-2 c = (row_in _ _ _ _ c.requires.1 c.requires.2, row_in _ _ _ _ c.requires.1 c.requires.3, c.requires.4)

pub returns : goal.returns
returns c = λ d. cnot_acts _ _ _ _ d c.requires.0 c.requires.1 _ _ c.requires.2 c.requires.3 _ _ c.add_row.ensures c.add_row-2.ensures
