-- `unitaries::cliffords::permute_rows` meets its contract.
use Rattle.unitaries.specs.Laws.Images.{rows_permuted}
use Rattle.propagator.specs.Laws.Lists.{rows_in}
use native.Mathlib.Nat.{zero-add}
use native.Mathlib.Omega.{arith}
use Rattle.unitaries.proofs.cliffords.permute_rows.Goals as goal

pub save_listed-requires : goal.save_listed-requires
save_listed-requires c = (omega arith, rw zero-add c.requires.3, rows_in _ _ _ _ c.requires.0 c.requires.1)

pub clear_listed-requires : goal.clear_listed-requires
clear_listed-requires c = rows_in _ _ _ _ c.requires.0 c.requires.1

pub returns : goal.returns
returns c = rows_permuted _ _ _ _ _ _ _ _ _ c.requires.0 c.requires.1 c.requires.3 c.save_listed.ensures c.clear_listed.ensures c.add_to_places.ensures
