-- `made_lines::noise_lines::put_single` meets its contract. Assumes nothing.
use Rattle.text.specs.Bytes.{bytes}
use Rattle.made_lines.specs.Laws.Noise.{single_made}
use native.Mathlib.Omega.{arith}
use Rattle.made_lines.proofs.noise_lines.put_single.Goals as goal

pub put_pauli-next-requires : goal.put_pauli-next-requires
put_pauli-next-requires c = (omega arith, c.requires.qubits, omega (arith, (c.put_start-start.ensures c.args.h).near, c.requires.room))

pub put_bytes-end-requires : goal.put_bytes-end-requires
put_bytes-end-requires c = omega (arith, (c.put_start-start.ensures c.args.h).near, c.put_pauli-next.ensures.near, c.requires.room)

pub end_line-requires : goal.end_line-requires
unfolding bytes
end_line-requires c = rw c.moved.ensures (omega (arith, (c.put_start-start.ensures c.args.h).near, c.put_pauli-next.ensures.near, c.put_bytes-end.ensures.place, c.requires.room))

pub returns : goal.returns
returns c = unfold bytes in single_made c.args.h (c.put_start-start.ensures c.args.h) c.put_pauli-next.ensures c.put_bytes-end.ensures c.moved.ensures c.end_line.ensures
