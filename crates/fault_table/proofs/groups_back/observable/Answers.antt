-- `fault_table::groups_back::observable` meets its contract. Assumes nothing.
use Rattle.pauli.specs.Fixed.{as_pauli}
use Rattle.fault_table.specs.Laws.Back.{observable_in}
use Rattle.fault_table.proofs.groups_back.observable.Goals as goal

pub returns : goal.returns
unfolding as_pauli
returns c = observable_in _ c.requires
