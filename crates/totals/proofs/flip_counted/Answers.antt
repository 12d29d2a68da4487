-- `totals::flip_counted` meets its contract. Assumes nothing.
use native.Mathlib.Omega.{arith}
use Rattle.totals.specs.Laws.Held.{flip_enough, flip_fits, held_flipped}
use Rattle.totals.proofs.flip_counted.Goals as goal

pub overflow_add-totals : goal.overflow_add-totals
overflow_add-totals c =
    let p = c.requires in
    let fits = flip_fits p.3 _ p.1 p.0 _ p.2 in
    record { fits = omega (arith, fits) }

pub overflow_sub-totals : goal.overflow_sub-totals
overflow_sub-totals c =
    let p = c.requires in
    let enough = flip_enough p.3 _ p.1 p.0 _ p.2 in
    omega (arith, enough)

pub returns : goal.returns
returns c =
    let p = c.requires in
    let flips = c.flip_bit.ensures in
    (flips, rw flips (held_flipped p.3 _ p.1 p.0 _ p.2))
