-- `made_lines::gates::put_clifford` meets its contract. Assumes nothing.
use mathlib.Core.Path.{sym}
use lib.Seq.{length-take-le}
use native.Mathlib.Omega.{arith}
use Rattle.text.specs.Bytes.{bytes}
use Rattle.made_fields.specs.Laws.Made.{pick_below}
use Rattle.made_lines.specs.Laws.Cliffords.{few_qubits, suits, clifford_made}
use Rattle.made_lines.proofs.gates.put_clifford.Goals as goal

pub pick-i-requires : goal.pick-i-requires
pick-i-requires c = omega (arith, c.suited_tables.ensures, (suits _ c.requires.some_qubits).some)

pub table_qubits-k-requires : goal.table_qubits-k-requires
table_qubits-k-requires c =
    let first = suits _ c.requires.some_qubits in
    let below = pick_below _ _ _ (omega (arith, first.some, c.suited_tables.ensures)) c.pick-i.ensures in
    omega (arith, below, first.few, c.suited_tables.ensures)

pub cyclic-requires : goal.cyclic-requires
cyclic-requires c =
    let a = pick_below _ _ _ c.requires.some_qubits c.pick-a.ensures in
    (omega (arith, c.table_qubits-k.ensures, few_qubits c.pick-i.result.value), c.requires.some_qubits, omega (arith, a, c.requires.qubits, c.table_qubits-k.ensures, few_qubits c.pick-i.result.value))

pub slice_bounds-list-end : goal.slice_bounds-list-end
slice_bounds-list-end c = omega (arith, c.cyclic.auto.list, c.table_qubits-k.ensures, few_qubits c.pick-i.result.value)

pub slice_bounds-put_members-end-2 : goal.slice_bounds-put_members-end-2
slice_bounds-put_members-end-2 c =
    sym (length-take-le _ _ (omega (arith, c.cyclic.auto.list, c.table_qubits-k.ensures, few_qubits c.pick-i.result.value)))

pub put_table-end-requires : goal.put_table-end-requires
put_table-end-requires c =
    let first = suits _ c.requires.some_qubits in
    let below = pick_below _ _ _ (omega (arith, first.some, c.suited_tables.ensures)) c.pick-i.ensures in
    (omega (arith, below, first.few, c.suited_tables.ensures), omega (arith, c.put_bytes-at.ensures.place, c.put_members-next.ensures.near, c.requires.room))

pub returns : goal.returns
returns c =
    unfold bytes in
    clifford_made c.args.h _ c.requires.some_qubits c.suited_tables.ensures c.pick-i.ensures c.pick-a.ensures c.table_qubits-k.ensures c.cyclic.ensures c.put_members-next.ensures c.put_bytes-at.ensures c.put_table-end.ensures c.moved.ensures c.end_line.ensures
