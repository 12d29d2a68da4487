-- `propagator::paulis::reset_qubits` meets its contract.
use Rattle.propagator.specs.Laws.Lists.{rows_in}
use Rattle.propagator.specs.Laws.Paulis.{reset_acts}
use Rattle.propagator.proofs.paulis.reset_qubits.Goals as goal

pub clear_listed-requires : goal.clear_listed-requires
clear_listed-requires c = rows_in _ _ _ _ c.requires.0 c.requires.2

pub clear_listed-requires-2 : goal.clear_listed-requires-2
clear_listed-requires-2 c = rows_in _ _ _ _ c.requires.1 c.requires.2

pub returns : goal.returns
returns c = λ m d. reset_acts _ _ m _ _ _ d _ _ c.requires.0 c.requires.1 c.requires.2 c.clear_listed.ensures c.clear_listed-2.ensures
