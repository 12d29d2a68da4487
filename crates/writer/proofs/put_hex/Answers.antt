use mathlib.Core.Path.{refl}
use Rattle.writer.specs.Laws.Digits.{no_hexes, hex_stored, all_hexes}
use Rattle.writer.specs.Laws.Lists.{hex_length}
use native.Mathlib.Omega.{arith}
use Rattle.writer.proofs.put_hex.Goals as goal

pub loop-i-init : goal.loop-i-init
loop-i-init c = (omega arith, no_hexes _ _ refl)

pub hex_byte-requires : goal.hex_byte-requires
hex_byte-requires c = omega arith

pub bounds-digits-i : goal.bounds-digits-i
bounds-digits-i c = omega arith

pub loop-i-preserved : goal.loop-i-preserved
loop-i-preserved c = (omega arith, rw c.hex_byte.ensures (hex_stored c.loop-i.invariant.1 c.loop-i-test.true c.loop-i.invariant.0))

pub slice_bounds-put_bytes-end : goal.slice_bounds-put_bytes-end
slice_bounds-put_bytes-end c = omega arith

pub put_bytes-requires : goal.put_bytes-requires
put_bytes-requires c = omega (arith, hex_length c.args.n)

pub returns : goal.returns
returns c = rw (all_hexes c.loop-i.invariant.1 c.loop-i-test.false) at c.put_bytes.ensures
