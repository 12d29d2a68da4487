-- `pauli::Pauli::has_z` meets its contract.
use Rattle.pauli.specs.Fixed.{as_pauli}
use Rattle.pauli.proofs.Pauli.has_z.Goals as goal

pub returns : goal.returns
unfolding as_pauli
returns c = c.has_qubit.ensures
