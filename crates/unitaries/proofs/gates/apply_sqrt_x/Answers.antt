-- `unitaries::gates::apply_sqrt_x` meets its contract.
use Rattle.unitaries.specs.Laws.Gates.{sqrt_x_acts}
use Rattle.propagator.specs.Laws.Lists.{row_in}
use native.Mathlib.Omega.{arith}
use Rattle.unitaries.proofs.gates.apply_sqrt_x.Goals as goal

pub overflow_mul-q : goal.overflow_mul-q
overflow_mul-q c = omega (arith, row_in _ _ _ _ c.requires.0 c.requires.2)

pub overflow_mul-q-2 : goal.overflow_mul-q-2
overflow_mul-q-2 c = omega (arith, row_in _ _ _ _ c.requires.0 c.requires.2)

pub xor_words-requires : goal.xor_words-requires
xor_words-requires c = (row_in _ _ _ _ c.requires.0 c.requires.2, row_in _ _ _ _ c.requires.1 c.requires.2)

pub returns : goal.returns
returns c = λ d. sqrt_x_acts _ _ _ _ d c.requires.0 c.requires.1 _ c.requires.2 _ c.xor_words.ensures
