-- `unitaries::cliffords::apply_clifford` meets its contract.
use Rattle.unitaries.specs.Laws.Images.{first_half, clifford_acts}
use Rattle.propagator.specs.Laws.Lists.{rows_in}
use native.Mathlib.Omega.{arith}
use mathlib.Core.Path.{◌∙◌}
use Rattle.unitaries.proofs.cliffords.apply_clifford.Goals as goal

pub save_listed-requires : goal.save_listed-requires
save_listed-requires c = let p = c.requires in (omega arith, first_half _ _ p.0, rows_in _ _ _ _ p.1 p.4)

pub save_listed-requires-2 : goal.save_listed-requires-2
save_listed-requires-2 c = let p = c.requires in (omega (arith, p.3), omega (arith, p.0, c.save_listed.auto), rows_in _ _ _ _ p.2 p.4)

pub clear_listed-requires : goal.clear_listed-requires
clear_listed-requires c = let p = c.requires in rows_in _ _ _ _ p.1 p.4

pub clear_listed-requires-2 : goal.clear_listed-requires-2
clear_listed-requires-2 c = let p = c.requires in rows_in _ _ _ _ p.2 p.4

pub add_images-requires : goal.add_images-requires
add_images-requires c = let p = c.requires in (c.clear_listed.auto.rows ∙ p.1, c.clear_listed-2.auto.rows ∙ p.2, p.3, p.4, omega (arith, p.0, c.save_listed.auto, c.save_listed-2.auto))

pub returns : goal.returns
returns c =
    λ m d.
    let p = c.requires in
    clifford_acts _ _ m _ _ _ _ d _ _ _ _ _ _ _ p.1 p.2 p.4 p.0 c.save_listed.auto.saved c.save_listed.ensures c.save_listed-2.ensures
    c.clear_listed.ensures c.clear_listed-2.ensures c.add_images.ensures
