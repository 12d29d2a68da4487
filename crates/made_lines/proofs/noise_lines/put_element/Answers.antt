-- `made_lines::noise_lines::put_element` meets its contract. Assumes nothing.
use Rattle.writer.specs.Laws.Lists.{hex_length}
use Rattle.text.specs.Bytes.{bytes}
use Rattle.made_lines.specs.Laws.Elements.{uniform_put, weighted_put}
use native.Mathlib.Omega.{arith}
use Rattle.made_lines.proofs.noise_lines.put_element.Goals as goal

pub returns-then-not-weighted : goal.returns-then-not-weighted
returns-then-not-weighted c = rw c.if-not-weighted.true (unfold bytes in uniform_put _ _ c.put_pauli-next.ensures c.end_line.ensures)

pub put_hex-at-requires : goal.put_hex-at-requires
put_hex-at-requires c = omega (arith, hex_length c.weight.result, c.put_bytes-next.ensures.place, c.requires.2)

pub put_pauli-end-requires : goal.put_pauli-end-requires
put_pauli-end-requires c = rw c.moved.ensures (omega arith, c.requires.0, omega (arith, hex_length c.weight.result, c.put_bytes-next.ensures.place, c.put_hex-at.ensures.place, c.requires.2))

pub end_line-requires-2 : goal.end_line-requires-2
end_line-requires-2 c = omega (arith, rw c.moved.ensures at c.put_pauli-end.ensures.near, hex_length c.weight.result, c.put_bytes-next.ensures.place, c.put_hex-at.ensures.place, c.requires.2)

pub returns : goal.returns
returns c = rw c.if-not-weighted.false (unfold bytes in weighted_put _ _ c.put_bytes-next.ensures c.weight.ensures c.put_hex-at.ensures c.moved.ensures c.put_pauli-end.ensures c.end_line-2.ensures)
