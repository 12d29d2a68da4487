-- `check_lines::noise_lines::unlisted_number` meets its contract. Assumes nothing.
use native.Mathlib.Omega.{arith}
use mathlib.Core.Path.{◌∙◌}
use Rattle.std.proofs.lemmas.Result.{err_from_is_err_and}
use Rattle.check_values.specs.Laws.Lowest.{two_fail, two_pass}
use Rattle.check_lines.proofs.noise_lines.unlisted_number.Goals as goal

pub returns-in_err-noise_number : goal.returns-in_err-noise_number
returns-in_err-noise_number c = λ lists vs h m. let p = err_from_is_err_and c.from_residual.result c.from_residual.ensures.1 in rw (p.1, p.2) (two_fail _ _ _ (c.noise_number.ensures _ _ vs h (omega arith) m) c.in_err-noise_number.was)

pub returns : goal.returns
returns c = λ lists vs h m.
    c.size_number.ensures _ _ vs h (omega arith)
    ∙ two_pass _ _ _ (c.noise_number.ensures _ _ vs h (omega arith) m) (omega arith) (omega arith) c.in_ok-noise_number.was
