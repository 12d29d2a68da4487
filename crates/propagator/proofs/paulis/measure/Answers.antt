-- `propagator::paulis::measure` meets its contract.
use native.Mathlib.Omega.{arith}
use Rattle.propagator.specs.Laws.Lists.{row_in, rows_in}
use Rattle.propagator.specs.Laws.Paulis.{measure_acts, measure_held}
use Rattle.propagator.proofs.paulis.measure.Goals as goal

pub add_listed-requires : goal.add_listed-requires
add_listed-requires c = let p = c.requires in (row_in _ _ _ _ p.2 p.4, rows_in _ _ _ _ p.0 p.3.z_below)

pub add_listed-requires-2 : goal.add_listed-requires-2
add_listed-requires-2 c = let p = c.requires in (omega (arith, c.add_listed.auto, row_in _ _ _ _ p.2 p.4), rows_in _ _ _ _ p.1 p.3.x_below)

pub recount-requires : goal.recount-requires
recount-requires c =
    let p = c.requires in
    (omega (arith, c.add_listed-2.auto, c.add_listed.auto, row_in _ _ _ _ p.2 p.4), p.5.fits, omega (arith, p.5.long, p.4))

pub returns : goal.returns
returns c =
    let p = c.requires in
    let acts = measure_acts _ _ _ _ p.0 p.1 _ _ p.3 _ _ _ _ _ p.2 p.4 c.add_listed.ensures c.add_listed-2.ensures in
    (acts, measure_held _ _ _ _ p.0 p.1 _ _ p.3 _ _ _ _ _ _ p.4 acts p.5 c.recount.ensures)
