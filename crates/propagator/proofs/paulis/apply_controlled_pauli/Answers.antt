-- `propagator::paulis::apply_controlled_pauli` meets its contract.
use native.Mathlib.Omega.{arith}
use mathlib.Core.Path.{◌∙◌}
use Rattle.propagator.specs.Laws.Paulis.{controlled_acts}
use Rattle.propagator.proofs.paulis.apply_controlled_pauli.Goals as goal

pub anticommutation_mask-requires : goal.anticommutation_mask-requires
anticommutation_mask-requires c = let p = c.requires in (omega arith, p.1, p.2, p.3)

pub anticommutation_mask-requires-2 : goal.anticommutation_mask-requires-2
anticommutation_mask-requires-2 c = let p = c.requires in (omega (arith, c.anticommutation_mask.auto, p.0), p.1, p.2, p.4)

pub add_pauli-requires : goal.add_pauli-requires
add_pauli-requires c = let p = c.requires in (omega (arith, c.anticommutation_mask-2.auto, c.anticommutation_mask.auto, p.0), p.1, p.2, p.4)

pub add_pauli-requires-2 : goal.add_pauli-requires-2
add_pauli-requires-2 c = let p = c.requires in (omega (arith, c.anticommutation_mask-2.auto, c.anticommutation_mask.auto, p.0), c.add_pauli.auto.x ∙ p.1, c.add_pauli.auto.z ∙ p.2, p.3)

pub returns : goal.returns
returns c = λ m d. controlled_acts _ _ m _ _ _ _ d _ _ _ _ _ _ _ c.anticommutation_mask.ensures c.anticommutation_mask-2.ensures (c.add_pauli.ensures d) (c.add_pauli-2.ensures d)
