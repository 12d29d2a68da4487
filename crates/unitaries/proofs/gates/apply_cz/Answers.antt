-- `unitaries::gates::apply_cz` meets its contract.
use Rattle.unitaries.specs.Laws.Gates.{cz_acts}
use mathlib.Core.Path.{◌∙◌}
use Rattle.propagator.specs.Laws.Lists.{row_in}
use native.Mathlib.Omega.{arith}
use Rattle.unitaries.proofs.gates.apply_cz.Goals as goal

pub overflow_mul-second_row : goal.overflow_mul-second_row
overflow_mul-second_row c = omega (arith, row_in _ _ _ _ c.requires.1 c.requires.3)

pub overflow_mul-first_row : goal.overflow_mul-first_row
overflow_mul-first_row c = omega (arith, row_in _ _ _ _ c.requires.0 c.requires.2)

pub xor_words-requires : goal.xor_words-requires
xor_words-requires c = (row_in _ _ _ _ c.requires.1 c.requires.3, row_in _ _ _ _ c.requires.0 c.requires.2)

pub overflow_mul-first_row-2 : goal.overflow_mul-first_row-2
overflow_mul-first_row-2 c = omega (arith, row_in _ _ _ _ c.requires.1 c.requires.2)

pub overflow_mul-second_row-2 : goal.overflow_mul-second_row-2
overflow_mul-second_row-2 c = omega (arith, row_in _ _ _ _ c.requires.0 c.requires.3)

pub xor_words-requires-2 : goal.xor_words-requires-2
xor_words-requires-2 c = (row_in _ _ _ _ (c.xor_words.auto.dst ∙ c.requires.1) c.requires.2, row_in _ _ _ _ c.requires.0 c.requires.3)

pub returns : goal.returns
returns c = λ d. cz_acts _ _ _ _ d c.requires.0 c.requires.1 _ _ c.requires.2 c.requires.3 _ _ c.xor_words.ensures c.xor_words-2.ensures
