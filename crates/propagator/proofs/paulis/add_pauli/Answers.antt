-- `propagator::paulis::add_pauli` meets its contract.
use Rattle.propagator.specs.Laws.Paulis.{pauli_acts}
use Rattle.propagator.specs.Laws.Lists.{rows_in}
use Rattle.propagator.proofs.paulis.add_pauli.Goals as goal

pub add_mask_listed-requires : goal.add_mask_listed-requires
add_mask_listed-requires c = (c.requires.0, rows_in _ _ _ _ c.requires.1 c.requires.3.x_below)

pub add_mask_listed-requires-2 : goal.add_mask_listed-requires-2
add_mask_listed-requires-2 c = (c.requires.0, rows_in _ _ _ _ c.requires.2 c.requires.3.z_below)

pub returns : goal.returns
returns c = λ d. pauli_acts _ _ _ _ c.requires.1 c.requires.2 _ _ c.requires.3 d _ _ _ _ c.add_mask_listed.ensures c.add_mask_listed-2.ensures
