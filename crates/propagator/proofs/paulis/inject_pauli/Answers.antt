-- `propagator::paulis::inject_pauli` meets its contract.
use Rattle.propagator.specs.Laws.Lists.{rows_in}
use Rattle.propagator.specs.Laws.Paulis.{inject_acts}
use Rattle.propagator.proofs.paulis.inject_pauli.Goals as goal

pub flip_listed-requires : goal.flip_listed-requires
flip_listed-requires c = (c.requires.3, rows_in _ _ _ _ c.requires.0 c.requires.2.x_below)

pub flip_listed-requires-2 : goal.flip_listed-requires-2
flip_listed-requires-2 c = (c.requires.3, rows_in _ _ _ _ c.requires.1 c.requires.2.z_below)

pub returns : goal.returns
returns c = λ m d. inject_acts _ _ _ _ c.requires.0 c.requires.1 _ _ c.requires.2 _ c.requires.3 m d _ _ c.flip_listed.ensures c.flip_listed-2.ensures
