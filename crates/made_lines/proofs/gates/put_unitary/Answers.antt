-- `made_lines::gates::put_unitary` meets its contract. Assumes nothing.
use native.Mathlib.Omega.{arith}
use Rattle.text.specs.Bytes.{bytes}
use Rattle.made_fields.specs.Laws.Made.{pick_below}
use Rattle.made_lines.specs.Laws.Gates.{some_codes, unitary_made}
use Rattle.made_lines.proofs.gates.put_unitary.Goals as goal

pub pick-g-requires : goal.pick-g-requires
pick-g-requires c = omega (arith, some_codes c.args.h, c.gate_codes.ensures)

pub gate_qubits-q-requires : goal.gate_qubits-q-requires
gate_qubits-q-requires c =
    let a = pick_below _ _ _ c.requires.some_qubits c.pick-a.ensures in
    let g = pick_below _ _ _ (omega (arith, some_codes c.args.h, c.gate_codes.ensures)) c.pick-g.ensures in
    (a, c.requires.qubits, omega (arith, g, c.gate_codes.ensures), omega arith)

pub returns : goal.returns
returns c =
    unfold bytes in
    unitary_made c.args.h c.gate_codes.ensures c.pick-g.ensures c.pick-a.ensures c.gate_qubits-q.ensures c.put_value-next.ensures c.put_members-end.ensures c.moved.ensures c.end_line.ensures
