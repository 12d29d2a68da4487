-- `check_values::floats::float_of` meets its contract. Assumes nothing.
use lib.Ieee.Bits.{nan_bits_above}
use borrow.Author.Tests.{lt-ltb, le-ltb}
use Rattle.check_values.specs.Laws.Floats.{nan_test}
use Rattle.check_values.specs.Floats.{only_if}
use Rattle.check_values.proofs.floats.float_of.Goals as goal

pub returns-then-bits-gt-INFINITY : goal.returns-then-bits-gt-INFINITY
unfolding only_if
returns-then-bits-gt-INFINITY c = simp (nan_test, lt-ltb _ _ c.if-bits-gt-INFINITY.true)

pub float_from_bits-result : goal.float_from_bits-result
float_from_bits-result c = rw (nan_bits_above, le-ltb _ _ c.if-bits-gt-INFINITY.false) tt

pub returns : goal.returns
unfolding only_if
returns c = simp (nan_test, le-ltb _ _ c.if-bits-gt-INFINITY.false)
