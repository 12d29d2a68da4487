-- `check_lines::noise_lines::single_number` meets its contract. Assumes nothing.
use native.Mathlib.Omega.{arith}
use mathlib.Core.Path.{sym, ◌∙◌}
use Rattle.check_lines.specs.Laws.Noise.{tests_single}
use Rattle.check_values.specs.Laws.Lowest.{fails, passes}
use Rattle.check_lines.proofs.noise_lines.single_number.Goals as goal

pub returns-then-not-below : goal.returns-then-not-below
returns-then-not-below c =
    λ vs w h.
    let t = tests_single c.args.c h in
    fails 4 _ _ (sym (c.below.ensures _ _ vs t.held (omega arith)) ∙ c.if-not-below.true) ∙ t.own

pub returns-then-not-short : goal.returns-then-not-short
returns-then-not-short c =
    λ vs w h.
    let t = tests_single c.args.c h in
    fails 5 _ _ (sym (c.short.ensures.by_index _ _ vs t.held (omega arith)) ∙ c.if-not-short.true) ∙ passes 4 _ _ (sym (c.below.ensures _ _ vs t.held (omega arith)) ∙ c.if-not-below.false) ∙ t.own

pub returns : goal.returns
returns c =
    λ vs w h.
    let t = tests_single c.args.c h in
    c.unlisted_number.ensures _ vs t.held (omega arith)
    ∙ passes 5 _ _ (sym (c.short.ensures.by_index _ _ vs t.held (omega arith)) ∙ c.if-not-short.false) ∙ passes 4 _ _ (sym (c.below.ensures _ _ vs t.held (omega arith)) ∙ c.if-not-below.false) ∙ t.own
