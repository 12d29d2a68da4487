use native.Mathlib.Omega.{arith}
use mathlib.Core.Path.{refl}
use lib.Seq.{take_all}
use Rattle.template.specs.Laws.Reading.{read_nothing, byte_more, byte_stops}
use Rattle.template.proofs.read_on.Goals as goal

pub loop-byte-init : goal.loop-byte-init
loop-byte-init c = read_nothing c.requires.0

pub next_byte-requires : goal.next_byte-requires
next_byte-requires c = ((c.loop-byte.invariant.read _ refl).within, omega (arith, c.loop-byte.auto.fields, c.requires.1))

pub returns-in_err-p : goal.returns-in_err-p
returns-in_err-p c = rw c.from_residual.ensures (byte_stops _ _ c.loop-byte.invariant c.loop-byte-test.true c.in_err-p.ensures)

pub loop-byte-preserved : goal.loop-byte-preserved
loop-byte-preserved c = byte_more _ _ c.loop-byte.invariant c.loop-byte-test.true c.in_ok-p.ensures

pub returns : goal.returns
returns c = rw (take_all _ _ c.loop-byte-test.false) at c.loop-byte.invariant
