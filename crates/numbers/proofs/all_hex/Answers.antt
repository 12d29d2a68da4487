use mathlib.Core.Path.{refl}
use native.Mathlib.Omega.{arith}
use Rattle.numbers.specs.Laws.Hex.{tested_more, tested_all}
use Rattle.numbers.proofs.all_hex.Goals as goal

pub loop-i-init : goal.loop-i-init
loop-i-init c = (omega arith, record { none = λ _. refl; some = λ n. absurd (n refl) })

pub loop-i-preserved : goal.loop-i-preserved
loop-i-preserved c =
    let loop = c.loop-i in
    (omega arith, tested_more c.not_hex-wrong.result loop.invariant.1 (omega arith) c.not_hex-wrong.ensures)

pub returns : goal.returns
returns c = tested_all c.loop-i.invariant.1 (omega arith)
