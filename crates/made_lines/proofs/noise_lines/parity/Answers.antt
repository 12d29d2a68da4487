-- `made_lines::noise_lines::parity` meets its contract. Assumes nothing.
use Rattle.made_lines.specs.Laws.Noise.{no_condition, condition_parity}
use native.Mathlib.Omega.{arith}
use Rattle.made_lines.proofs.noise_lines.parity.Goals as goal

pub returns-then-count-eq0 : goal.returns-then-count-eq0
returns-then-count-eq0 c = λ ids e. no_condition ids _ (omega (arith, e, c.if-count-eq0.true))

pub returns : goal.returns
returns c = λ ids e. condition_parity ids _ (λ z. c.if-count-eq0.false (omega (arith, e, z))) c.pick.ensures
