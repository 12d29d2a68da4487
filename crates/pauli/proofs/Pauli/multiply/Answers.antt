-- `pauli::Pauli::multiply` meets its contract.
use Rattle.pauli.specs.Pauli.{◌∗◌}
use Rattle.pauli.specs.Fixed.{as_pauli}
use Rattle.pauli.proofs.Laws.Gates.{pauli_path}
use Rattle.pauli.proofs.Pauli.multiply.Goals as goal

pub returns : goal.returns
unfolding ◌∗◌ as_pauli
returns c = pauli_path c.sum_of_qubits.ensures c.sum_of_qubits-2.ensures
