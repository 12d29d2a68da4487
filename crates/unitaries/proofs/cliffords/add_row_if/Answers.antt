-- `unitaries::cliffords::add_row_if` meets its contract.
use Rattle.unitaries.specs.Laws.Images.{row_added, row_left}
use native.Mathlib.Omega.{arith}
use Rattle.unitaries.proofs.cliffords.add_row_if.Goals as goal

pub returns-then-not-on : goal.returns-then-not-on
returns-then-not-on c = row_left _ _ _ _ _ _ (c.if-not-on.true)

pub overflow_mul-q : goal.overflow_mul-q
overflow_mul-q c = omega arith

pub overflow_mul-i : goal.overflow_mul-i
overflow_mul-i c = omega arith

pub xor_words-requires : goal.xor_words-requires
xor_words-requires c = (c.requires.0, c.requires.1)

pub returns : goal.returns
returns c = row_added _ _ _ _ _ _ _ (c.if-not-on.false) c.requires.0 c.xor_words.ensures
