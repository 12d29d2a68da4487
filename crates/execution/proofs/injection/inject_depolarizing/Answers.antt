-- `execution::injection::inject_depolarizing` meets its contract. Assumes nothing.
use Rattle.execution.specs.Laws.Depolarizing.{depolarizing_acts}
use Rattle.propagator.specs.Laws.Lists.{rows_in}
use native.Mathlib.Omega.{arith}
use Rattle.execution.proofs.injection.inject_depolarizing.Goals as goal

pub overflow_add-bits : goal.overflow_add-bits
overflow_add-bits c = record { fits = omega arith }

pub flip_selected-requires : goal.flip_selected-requires
flip_selected-requires c = (c.requires.5, rows_in _ _ _ _ c.requires.0 c.requires.2)

pub flip_selected-requires-2 : goal.flip_selected-requires-2
flip_selected-requires-2 c = (c.requires.5, rows_in _ _ _ _ c.requires.1 c.requires.2)

pub returns : goal.returns
returns c =
    λ m d. depolarizing_acts _ _ _ _ c.requires.0 c.requires.1 _ c.requires.2 c.requires.3 _ _ c.requires.5 m d _ _ c.flip_selected.ensures c.flip_selected-2.ensures
