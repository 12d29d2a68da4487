-- `made_fields::choices::few` meets its contract. Assumes nothing.
use native.Mathlib.Omega.{arith}
use Rattle.made_fields.specs.Laws.Made.{pick_below, few_none, few_made}
use Rattle.made_fields.proofs.choices.few.Goals as goal

pub returns-then-top-eq0 : goal.returns-then-top-eq0
returns-then-top-eq0 c = few_none _ _ _ c.if-top-eq0.true

pub mark-requires : goal.mark-requires
mark-requires c =
    let below = pick_below _ _ _ (omega arith) c.pick-a.ensures in
    (omega arith, omega (arith, below))

pub returns : goal.returns
returns c =
    few_made _ _ _ _ _ _ (omega arith) c.pick-a.ensures c.pick-m.ensures
    c.mark.ensures.0 c.mark.ensures.1
