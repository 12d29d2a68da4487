-- `pauli::Pauli::identity` meets its contract.
use Rattle.pauli.specs.Pauli.{identity}
use Rattle.pauli.specs.Fixed.{as_pauli}
use Rattle.pauli.proofs.Laws.Gates.{pauli_path}
use Rattle.pauli.proofs.Laws.Set.{in_none}
use Rattle.pauli.proofs.Pauli.identity.Goals as goal

pub returns : goal.returns
unfolding identity as_pauli
returns c = pauli_path (in_none 4) (in_none 4)
