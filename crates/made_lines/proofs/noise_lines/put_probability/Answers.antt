-- `made_lines::noise_lines::put_probability` meets its contract. Assumes nothing.
use Rattle.text.specs.Bytes.{bytes}
use Rattle.writer.specs.Laws.Lists.{hex_length}
use Rattle.made_fields.specs.Laws.Made.{pick_below}
use Rattle.made_lines.specs.Laws.Noise.{beginning_put}
use native.Mathlib.Omega.{arith}
use Rattle.made_lines.proofs.noise_lines.put_probability.Goals as goal

pub probability-requires : goal.probability-requires
probability-requires c = pick_below _ _ _ (omega arith) c.pick-p.ensures

pub put_hex-at-requires : goal.put_hex-at-requires
put_hex-at-requires c = omega (arith, hex_length c.probability.result, c.put_bytes-next.ensures.place, c.requires)

pub put_correlation-end-requires : goal.put_correlation-end-requires
put_correlation-end-requires c = omega (arith, hex_length c.probability.result, c.put_bytes-next.ensures.place, c.put_hex-at.ensures.place, c.requires)

pub returns : goal.returns
returns c = unfold bytes in beginning_put c.pick-p.ensures c.put_bytes-next.ensures c.probability.ensures c.put_hex-at.ensures c.pick-c.ensures c.put_correlation-end.ensures c.moved.ensures
