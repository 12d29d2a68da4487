-- `tables::row` meets its contract. Assumes nothing.
use Prim.Native.Nat.{◌*◌}
use native.Mathlib.Nat.{mul-le-mul}
use native.Mathlib.Omega.{arith}
use lib.Pow.{pow_pos}
use Rattle.pauli.proofs.Laws.Word.{one_shl}
use Rattle.tables.specs.Laws.Rows.{row_ends}
use Rattle.tables.specs.Laws.Words.{row_in_one, row_in_two}
use Rattle.tables.proofs.row.Goals as goal

pub overflow_mul-at-2 : goal.overflow_mul-at-2
overflow_mul-at-2 c = omega (arith, row_ends c.args.k c.args.r c.requires.1, mul-le-mul c.requires.0.few c.requires.0.few)

pub overflow_sub-mask : goal.overflow_sub-mask
overflow_sub-mask c = rw (one_shl (2 * c.args.k) (omega arith)) (pow_pos _)

pub offset_bounds-words-i : goal.offset_bounds-words-i
offset_bounds-words-i c = omega (arith, row_ends c.args.k c.args.r c.requires.1, mul-le-mul c.requires.0.few c.requires.0.few)

pub bounds-words-i : goal.bounds-words-i
bounds-words-i c = omega (arith, row_ends c.args.k c.args.r c.requires.1, c.requires.0.long)

pub returns-then-from-k-le-WORD_BITS : goal.returns-then-from-k-le-WORD_BITS
returns-then-from-k-le-WORD_BITS c = row_in_one _ (λ i. (c.type_inv.words i).fits) _ _ c.requires.0.few c.if-from-k-le-WORD_BITS.true

pub overflow_add-result : goal.overflow_add-result
overflow_add-result c = omega (arith, row_ends c.args.k c.args.r c.requires.1, mul-le-mul c.requires.0.few c.requires.0.few)

pub offset_bounds-words-i-else-from-k-le-WORD_BITS : goal.offset_bounds-words-i-else-from-k-le-WORD_BITS
offset_bounds-words-i-else-from-k-le-WORD_BITS c = omega (arith, row_ends c.args.k c.args.r c.requires.1, mul-le-mul c.requires.0.few c.requires.0.few)

pub bounds-words-i-else-from-k-le-WORD_BITS : goal.bounds-words-i-else-from-k-le-WORD_BITS
bounds-words-i-else-from-k-le-WORD_BITS c = omega (arith, row_ends c.args.k c.args.r c.requires.1, c.requires.0.long)

pub returns-else-from-k-le-WORD_BITS : goal.returns-else-from-k-le-WORD_BITS
returns-else-from-k-le-WORD_BITS c = row_in_two _ (λ i. (c.type_inv.words i).fits) _ _ c.requires.0.few c.if-from-k-le-WORD_BITS.false
