-- `pauli::Gate::from_code` meets its contract: each code's gate, computed.
use native.Mathlib.Omega.{arith}
use mathlib.Core.Path.{sym}
use Rattle.pauli.specs.Code.{named_or_none}
use Rattle.pauli.proofs.Laws.Code.{gate_none}
use Rattle.pauli.proofs.Gate.from_code.Goals as goal

pub returns-in-0-to-10 : goal.returns-in-0-to-10
unfolding named_or_none
returns-in-0-to-10 c = sym c.on_one_qubit.ensures

pub returns-in-11-to-15 : goal.returns-in-11-to-15
unfolding named_or_none
returns-in-11-to-15 c = sym c.on_two_qubits.ensures

pub returns-in_default : goal.returns-in_default
unfolding named_or_none
returns-in_default c = rw (gate_none c.args.code (omega arith))
