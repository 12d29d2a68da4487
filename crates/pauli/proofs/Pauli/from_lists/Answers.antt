-- `pauli::Pauli::from_lists` meets its contract.
use Rattle.pauli.specs.Fixed.{as_pauli}
use Rattle.pauli.proofs.Laws.Gates.{pauli_path}
use Rattle.pauli.proofs.Pauli.from_lists.Goals as goal

pub returns : goal.returns
unfolding as_pauli
returns c = pauli_path c.set_of.ensures c.set_of-2.ensures
