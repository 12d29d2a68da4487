-- `annotation::around::put_around` meets its contract. Assumes nothing.
use Rattle.writer.specs.Laws.Placing.{puts_more}
use Rattle.annotation.specs.Laws.Annotating.{started, noise_next}
use native.Mathlib.Omega.{arith}
use Rattle.annotation.proofs.around.put_around.Goals as goal

pub put_noise-next-requires : goal.put_noise-next-requires
put_noise-next-requires c = (c.requires.1, omega (arith, c.requires.2, started c.requires.0))

pub put_bytes-requires : goal.put_bytes-requires
put_bytes-requires c = omega (arith, noise_next _ _ (c.put_noise-next.ensures _ c.requires.0.text), c.requires.2)

pub returns-then-before : goal.returns-then-before
returns-then-before c p e = rw c.if-before.true (puts_more (c.put_noise-next.ensures p e) c.put_bytes.ensures)

pub put_bytes-next-requires : goal.put_bytes-next-requires
put_bytes-next-requires c = omega (arith, c.requires.2)

pub put_noise-requires : goal.put_noise-requires
put_noise-requires c = (c.requires.1, omega (arith, c.requires.2, started c.requires.0, c.put_bytes-next.ensures.place))

pub returns : goal.returns
returns c p e = rw c.if-before.false (puts_more c.put_bytes-next.ensures (c.put_noise.ensures p e))
