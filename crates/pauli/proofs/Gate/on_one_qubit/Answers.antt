-- `pauli::Gate::on_one_qubit` meets its contract: each code's gate, computed.
use native.Mathlib.Omega.{arith}
use mathlib.Core.Path.{◌≡◌, sym}
use Rattle.pauli.specs.Gate.{gates, gate_from, gate_of}
use Rattle.pauli.specs.Code.{gate_named, named_or_none}
use Rattle.pauli.proofs.Gate.on_one_qubit.Goals as goal

pub returns-in-0 : goal.returns-in-0
unfolding gate_named gate_of gate_from gates
returns-in-0 c = rw c.in-0.is

pub returns-in-1 : goal.returns-in-1
unfolding gate_named gate_of gate_from gates
returns-in-1 c = rw c.in-1.is

pub returns-in-2 : goal.returns-in-2
unfolding gate_named gate_of gate_from gates
returns-in-2 c = rw c.in-2.is

pub returns-in-3 : goal.returns-in-3
unfolding gate_named gate_of gate_from gates
returns-in-3 c = rw c.in-3.is

pub returns-in-4 : goal.returns-in-4
unfolding gate_named gate_of gate_from gates
returns-in-4 c = rw c.in-4.is

pub returns-in-5 : goal.returns-in-5
unfolding gate_named gate_of gate_from gates
returns-in-5 c = rw c.in-5.is

pub returns-in-6 : goal.returns-in-6
unfolding gate_named gate_of gate_from gates
returns-in-6 c = rw c.in-6.is

pub returns-in-7 : goal.returns-in-7
unfolding gate_named gate_of gate_from gates
returns-in-7 c = rw c.in-7.is

pub returns-in-8 : goal.returns-in-8
unfolding gate_named gate_of gate_from gates
returns-in-8 c = rw c.in-8.is

pub returns-in-9 : goal.returns-in-9
unfolding gate_named gate_of gate_from gates
returns-in-9 c = rw c.in-9.is

pub returns-in_default : goal.returns-in_default
unfolding gate_named gate_of gate_from gates
returns-in_default c = let e : c.args.code ≡ 10 = omega arith in rw e
