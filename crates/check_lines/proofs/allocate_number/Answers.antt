-- `check_lines::allocate_number` meets its contract. Assumes nothing.
use native.Mathlib.Omega.{arith}
use mathlib.Core.Path.{◌∙◌}
use Rattle.check_lines.specs.Laws.Lines.{tests_allocate}
use Rattle.check_lines.proofs.allocate_number.Goals as goal

pub returns : goal.returns
returns c =
    λ vs w h.
    let t = tests_allocate c.args.c h in
    let id = c.number.ensures ∙ t.held.number 0 (omega arith) in
    (rw id at c.id_number.ensures) ∙ t.own
