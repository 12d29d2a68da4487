-- `faults::satisfied_shots` meets its contract.
use lib.ListN.{length}
use mathlib.Core.Path.{◌≡◌}
use native.Mathlib.Omega.{arith}
use borrow.Author.Rules.{rules}
use Rattle.faults.proofs.satisfied_shots.Goals as goal

pub slice_bounds-outcomes-end : goal.slice_bounds-outcomes-end
slice_bounds-outcomes-end c =
    let size : length c.args.condition.outcomes ≡ 31 = search rules in
    omega (arith, c.requires.0)
