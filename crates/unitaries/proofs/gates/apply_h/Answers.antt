-- `unitaries::gates::apply_h` meets its contract.
use Rattle.propagator.specs.Laws.Lists.{row_in}
use Rattle.unitaries.specs.Laws.Gates.{h_acts}
use native.Mathlib.Omega.{arith}
use Rattle.unitaries.proofs.gates.apply_h.Goals as goal

pub overflow_mul-q : goal.overflow_mul-q
overflow_mul-q c = omega (arith, row_in _ _ _ _ c.requires.0 c.requires.2)

pub swap_words-requires : goal.swap_words-requires
swap_words-requires c = (row_in _ _ _ _ c.requires.0 c.requires.2, row_in _ _ _ _ c.requires.1 c.requires.2)

pub returns : goal.returns
returns c = λ d. h_acts _ _ _ _ d c.requires.0 c.requires.1 _ c.requires.2 _ _ c.swap_words.ensures.0 c.swap_words.ensures.1
