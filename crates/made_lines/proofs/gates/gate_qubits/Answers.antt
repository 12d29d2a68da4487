-- `made_lines::gates::gate_qubits` meets its contract. Assumes nothing.
use native.Mathlib.Omega.{arith}
use Rattle.made_fields.specs.Laws.Made.{pick_below}
use Rattle.made_lines.specs.Laws.Gates.{two_qubits, gate_one, gate_two}
use Rattle.made_lines.proofs.gates.gate_qubits.Goals as goal

pub returns-then-g-lt11 : goal.returns-then-g-lt11
returns-then-g-lt11 c = gate_one c.args.h c.args.g c.args.first.0 c.args.state c.args.list.now c.if-g-lt11.true (omega arith)

pub pick-d-requires : goal.pick-d-requires
pick-d-requires c = omega (arith, two_qubits c.args.h (omega arith) c.requires.2 c.if-g-lt11.false)

pub overflow_add-list-2 : goal.overflow_add-list-2
overflow_add-list-2 c =
    let two = two_qubits c.args.h (omega arith) c.requires.2 c.if-g-lt11.false in
    let below = pick_below _ _ _ (omega (arith, two)) c.pick-d.ensures in
    omega (arith, below)

pub returns : goal.returns
returns c = gate_two c.args.h c.args.g c.args.first.0 c.args.state c.args.list.now c.if-g-lt11.false (omega (arith, c.requires.3)) c.pick-d.ensures
