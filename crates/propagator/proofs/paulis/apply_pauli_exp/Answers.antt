-- `propagator::paulis::apply_pauli_exp` meets its contract.
use native.Mathlib.Omega.{arith}
use Rattle.propagator.specs.Laws.Paulis.{exponential_acts}
use Rattle.propagator.proofs.paulis.apply_pauli_exp.Goals as goal

pub anticommutation_mask-requires : goal.anticommutation_mask-requires
anticommutation_mask-requires c = (omega arith, c.requires.1, c.requires.2, c.requires.3)

pub add_pauli-requires : goal.add_pauli-requires
add_pauli-requires c = (omega (arith, c.anticommutation_mask.auto, c.requires.0), c.requires.1, c.requires.2, c.requires.3)

pub returns : goal.returns
returns c = λ m d. exponential_acts _ _ m _ _ _ d _ _ _ _ c.anticommutation_mask.ensures (c.add_pauli.ensures d)
