-- `unitaries::gates::apply_swap` meets its contract.
use Rattle.unitaries.specs.Laws.Gates.{swap_acts}
use Rattle.propagator.specs.Laws.Lists.{row_in}
use Rattle.unitaries.proofs.gates.apply_swap.Goals as goal

pub swap_rows-requires : goal.swap_rows-requires
swap_rows-requires c = (row_in _ _ _ _ c.requires.0 c.requires.2, row_in _ _ _ _ c.requires.0 c.requires.3, c.requires.4)

pub swap_rows-requires-2 : goal.swap_rows-requires-2
swap_rows-requires-2 c = (row_in _ _ _ _ c.requires.1 c.requires.2, row_in _ _ _ _ c.requires.1 c.requires.3, c.requires.4)

pub returns : goal.returns
returns c = λ d. swap_acts _ _ _ _ d c.requires.0 c.requires.1 _ _ c.requires.2 c.requires.3 _ _ c.swap_rows.ensures c.swap_rows-2.ensures
