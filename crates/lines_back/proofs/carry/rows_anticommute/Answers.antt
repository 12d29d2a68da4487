use native.Mathlib.Omega.{arith}
use mathlib.Core.Path.{◌∙◌}
use Rattle.lines_back.specs.Laws.Packed.{packed_none, packed_all, row_as_word}
use Rattle.lines_back.proofs.carry.rows_anticommute.Goals as goal

pub loop-i-init : goal.loop-i-init
loop-i-init c = (omega arith, packed_none _)

pub overflow_add-from : goal.overflow_add-from
overflow_add-from c = omega (arith, c.requires.0.few)

pub row-requires : goal.row-requires
row-requires c = (c.requires.0, omega (arith, c.requires.1, c.loop-i-test.true))

pub row_anticommutes-requires : goal.row_anticommutes-requires
row_anticommutes-requires c = (c.requires.0.few, c.requires.2, c.requires.3)

pub with_bit-w-requires : goal.with_bit-w-requires
with_bit-w-requires c = omega (arith, c.requires.0.few)

pub loop-i-preserved : goal.loop-i-preserved
loop-i-preserved c = (omega arith, c.with_bit-w.ensures _ c.loop-i.invariant.1 (c.row_anticommutes.ensures ∙ rw c.row.ensures (row_as_word _ _ _ _)))

pub returns : goal.returns
returns c = packed_all c.loop-i.invariant.1 c.loop-i.invariant.0 c.loop-i-test.false
