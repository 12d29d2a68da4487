-- `fault_table::groups_back::gate_back` meets its contract. Assumes nothing.
use mathlib.Core.Path.{refl}
use Rattle.lines_back.specs.Laws.Forms.{acts, ready}
use Rattle.fault_table.specs.Laws.Back.{gate_goes}
use Rattle.fault_table.proofs.groups_back.gate_back.Goals as goal

pub observable-b-requires : goal.observable-b-requires
observable-b-requires c = c.requires.1

pub unitary-requires : goal.unitary-requires
unfolding acts
unitary-requires c = ready c.requires.0 refl

pub keep-requires : goal.keep-requires
keep-requires c = c.requires.1

pub returns : goal.returns
returns c = gate_goes _ _ c.requires.1 c.observable-b.ensures c.unitary.ensures c.keep.ensures
