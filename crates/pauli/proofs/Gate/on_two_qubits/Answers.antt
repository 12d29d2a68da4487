-- `pauli::Gate::on_two_qubits` meets its contract: each code's gate, computed.
use native.Mathlib.Omega.{arith}
use mathlib.Core.Path.{◌≡◌, sym}
use Rattle.pauli.specs.Gate.{gates, gate_from, gate_of}
use Rattle.pauli.specs.Code.{gate_named, named_or_none}
use Rattle.pauli.proofs.Gate.on_two_qubits.Goals as goal

pub returns-in-11 : goal.returns-in-11
unfolding gate_named gate_of gate_from gates
returns-in-11 c = rw c.in-11.is

pub returns-in-12 : goal.returns-in-12
unfolding gate_named gate_of gate_from gates
returns-in-12 c = rw c.in-12.is

pub returns-in-13 : goal.returns-in-13
unfolding gate_named gate_of gate_from gates
returns-in-13 c = rw c.in-13.is

pub returns-in-14 : goal.returns-in-14
unfolding gate_named gate_of gate_from gates
returns-in-14 c = rw c.in-14.is

pub returns-in_default : goal.returns-in_default
unfolding gate_named gate_of gate_from gates
returns-in_default c = let e : c.args.code ≡ 15 = omega arith in rw e
