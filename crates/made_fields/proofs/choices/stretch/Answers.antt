-- `made_fields::choices::stretch` meets its contract. Assumes nothing.
use native.Mathlib.Omega.{arith}
use Rattle.made_fields.specs.Laws.Made.{pick_below, stretch_made}
use Rattle.made_fields.proofs.choices.stretch.Goals as goal

pub pick-k-requires : goal.pick-k-requires
pick-k-requires c = omega arith

pub overflow_add-count : goal.overflow_add-count
overflow_add-count c = let below = pick_below _ _ _ (omega arith) c.pick-k.ensures in omega (arith, below)

pub cyclic-requires : goal.cyclic-requires
cyclic-requires c =
    let below = pick_below _ _ _ (omega arith) c.pick-k.ensures in
    let at = pick_below _ _ _ (omega arith) c.pick-a.ensures in
    (omega (arith, below), omega arith, omega (arith, below, at))

pub returns : goal.returns
returns c =
    let below = pick_below _ _ _ (omega arith) c.pick-k.ensures in
    stretch_made _ _ _ _ _ _ _ c.min.ensures c.pick-k.ensures
    c.pick-a.ensures c.cyclic.ensures (omega (arith, below))
