-- `numbers::lists::short_number` meets its contract. Assumes nothing.
use native.Mathlib.Omega.{arith}
use mathlib.Core.Path.{sym, ◌∙◌}
use Rattle.numbers.specs.Laws.Members.{digit_bounds, short_one, short_two, short_three}
use Rattle.numbers.proofs.lists.short_number.Goals as goal

pub overflow_sub-one : goal.overflow_sub-one
overflow_sub-one c = omega (arith, digit_bounds c.args.a (sym c.is_digit.ensures ∙ c.if-not-is_digit.false))

pub returns-then-b-eq44 : goal.returns-then-b-eq44
returns-then-b-eq44 c = λ rest. short_one _ _ _ (digit_bounds c.args.a (sym c.is_digit.ensures ∙ c.if-not-is_digit.false)) c.if-b-eq44.true

pub overflow_mul-two : goal.overflow_mul-two
overflow_mul-two c = omega (arith, digit_bounds c.args.a (sym c.is_digit.ensures ∙ c.if-not-is_digit.false), digit_bounds c.args.b (sym c.is_digit-2.ensures ∙ c.if-not-is_digit-2.false))

pub overflow_sub-two : goal.overflow_sub-two
overflow_sub-two c = omega (arith, digit_bounds c.args.b (sym c.is_digit-2.ensures ∙ c.if-not-is_digit-2.false))

pub overflow_cast-two : goal.overflow_cast-two
overflow_cast-two c = omega (arith, digit_bounds c.args.a (sym c.is_digit.ensures ∙ c.if-not-is_digit.false), digit_bounds c.args.b (sym c.is_digit-2.ensures ∙ c.if-not-is_digit-2.false))

pub overflow_add-two : goal.overflow_add-two
overflow_add-two c = omega (arith, digit_bounds c.args.a (sym c.is_digit.ensures ∙ c.if-not-is_digit.false), digit_bounds c.args.b (sym c.is_digit-2.ensures ∙ c.if-not-is_digit-2.false))

pub returns-then-c-eq44 : goal.returns-then-c-eq44
returns-then-c-eq44 c = λ rest. short_two _ _ _ _ (digit_bounds c.args.a (sym c.is_digit.ensures ∙ c.if-not-is_digit.false)) (digit_bounds c.args.b (sym c.is_digit-2.ensures ∙ c.if-not-is_digit-2.false)) c.if-a-eq48.false c.if-c-eq44.true

pub overflow_mul-result : goal.overflow_mul-result
overflow_mul-result c = omega (arith, digit_bounds c.args.a (sym c.is_digit.ensures ∙ c.if-not-is_digit.false), digit_bounds c.args.b (sym c.is_digit-2.ensures ∙ c.if-not-is_digit-2.false), digit_bounds c.args.c (sym c.is_digit-3.ensures ∙ c.if-not-is_digit-3.false))

pub overflow_sub-result : goal.overflow_sub-result
overflow_sub-result c = omega (arith, digit_bounds c.args.c (sym c.is_digit-3.ensures ∙ c.if-not-is_digit-3.false))

pub overflow_cast-result : goal.overflow_cast-result
overflow_cast-result c = omega (arith, digit_bounds c.args.a (sym c.is_digit.ensures ∙ c.if-not-is_digit.false), digit_bounds c.args.b (sym c.is_digit-2.ensures ∙ c.if-not-is_digit-2.false), digit_bounds c.args.c (sym c.is_digit-3.ensures ∙ c.if-not-is_digit-3.false))

pub overflow_add-result : goal.overflow_add-result
overflow_add-result c = omega (arith, digit_bounds c.args.a (sym c.is_digit.ensures ∙ c.if-not-is_digit.false), digit_bounds c.args.b (sym c.is_digit-2.ensures ∙ c.if-not-is_digit-2.false), digit_bounds c.args.c (sym c.is_digit-3.ensures ∙ c.if-not-is_digit-3.false))

pub returns : goal.returns
returns c = λ rest. short_three _ _ _ _ _ (digit_bounds c.args.a (sym c.is_digit.ensures ∙ c.if-not-is_digit.false)) (digit_bounds c.args.b (sym c.is_digit-2.ensures ∙ c.if-not-is_digit-2.false)) (digit_bounds c.args.c (sym c.is_digit-3.ensures ∙ c.if-not-is_digit-3.false)) c.if-a-eq48.false c.if-d-ne44.false
