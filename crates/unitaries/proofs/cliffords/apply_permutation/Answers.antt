-- `unitaries::cliffords::apply_permutation` meets its contract.
use Rattle.unitaries.specs.Laws.Images.{permutation_acts}
use native.Mathlib.Omega.{arith}
use Rattle.unitaries.proofs.cliffords.apply_permutation.Goals as goal

pub permute_rows-requires : goal.permute_rows-requires
permute_rows-requires c = let p = c.requires in (p.1, p.3, p.4, p.0)

pub permute_rows-requires-2 : goal.permute_rows-requires-2
permute_rows-requires-2 c = let p = c.requires in (p.2, p.3, p.4, omega (arith, p.0, c.permute_rows.auto))

pub returns : goal.returns
returns c = λ m d. permutation_acts _ _ m _ _ _ _ d _ _ c.permute_rows.ensures c.permute_rows-2.ensures
