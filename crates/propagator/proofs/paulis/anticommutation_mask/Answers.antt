-- `propagator::paulis::anticommutation_mask` meets its contract.
use native.Mathlib.Omega.{arith}
use Rattle.propagator.specs.Laws.Lists.{rows_in}
use Rattle.propagator.specs.Laws.Paulis.{mask_put}
use Rattle.propagator.proofs.paulis.anticommutation_mask.Goals as goal

pub sum_listed-requires : goal.sum_listed-requires
sum_listed-requires c = (c.requires.0, rows_in _ _ _ _ c.requires.1 c.requires.3.z_below)

pub add_listed-requires : goal.add_listed-requires
add_listed-requires c = (omega (arith, c.sum_listed.auto), rows_in _ _ _ _ c.requires.2 c.requires.3.x_below)

pub returns : goal.returns
returns c = let p = c.requires in mask_put _ _ _ _ p.1 p.2 _ _ p.3 _ _ _ _ p.0 c.sum_listed.ensures c.add_listed.ensures
