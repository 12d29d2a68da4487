-- `check_lines::inject_number` meets its contract. Assumes nothing.
use native.Mathlib.Omega.{arith}
use mathlib.Core.Path.{sym, ◌∙◌}
use Rattle.std.proofs.lemmas.Result.{err_from_is_err_and}
use Rattle.check_values.specs.Laws.Lowest.{none_bad, two_fail, two_pass, fails, passes}
use Rattle.check_lines.specs.Laws.Lines.{tests_inject}
use Rattle.check_lines.proofs.inject_number.Goals as goal

pub returns-in_err-pauli_number : goal.returns-in_err-pauli_number
returns-in_err-pauli_number c =
    λ vs w h.
    let t = tests_inject c.args.c h in
    let p = err_from_is_err_and c.from_residual.result c.from_residual.ensures.1 in
    rw (p.1, p.2) (two_fail _ _ _ (c.pauli_number.ensures _ _ vs t.held (omega arith)) c.in_err-pauli_number.was ∙ t.own)

pub returns-then-not-has_shot : goal.returns-then-not-has_shot
returns-then-not-has_shot c =
    λ vs w h.
    let t = tests_inject c.args.c h in
    let shot = c.number.ensures ∙ t.held.number 0 (omega arith) in
    fails 10 _ _ (rw shot at (sym c.has_shot.ensures ∙ c.if-not-has_shot.true))
    ∙ two_pass _ _ _ (c.pauli_number.ensures _ _ vs t.held (omega arith)) (omega arith) (omega arith) c.in_ok-pauli_number.was
    ∙ t.own

pub returns : goal.returns
returns c =
    λ vs w h.
    let t = tests_inject c.args.c h in
    let shot = c.number.ensures ∙ t.held.number 0 (omega arith) in
    none_bad ∙ passes 10 _ _ (rw shot at (sym c.has_shot.ensures ∙ c.if-not-has_shot.false))
    ∙ two_pass _ _ _ (c.pauli_number.ensures _ _ vs t.held (omega arith)) (omega arith) (omega arith) c.in_ok-pauli_number.was
    ∙ t.own
