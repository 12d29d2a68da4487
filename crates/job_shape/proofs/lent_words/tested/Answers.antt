-- `job_shape::lent_words::tested` meets its contract.
use Rattle.job_shape.specs.Laws.Tested.{tests_refused, tests_passed, tests_short, tests_enough}
use Rattle.job_shape.specs.Laws.Enough.{range, row_words}
use mathlib.Core.Path.{sym, ◌∙◌}
use native.Mathlib.Omega.{arith}
use Rattle.job_shape.proofs.lent_words.tested.Goals as goal

pub returns-then-answer-ne0 : goal.returns-then-answer-ne0
returns-then-answer-ne0 c = tests_refused c.test-r.ensures _ c.if-answer-ne0.true

pub enough-requires : goal.enough-requires
enough-requires c =
    let r = range _ (tests_passed c.test-r.ensures c.if-answer-ne0.false) in
    rw (c.test-r.ensures.shaped c.if-answer-ne0.false) (row_words _ _ (omega (arith, r.few_qubits)) r.few_shots, row_words _ _ r.few_outcomes r.few_shots)

pub returns-then-not-enough : goal.returns-then-not-enough
returns-then-not-enough c =
    tests_short c.test-r.ensures c.if-answer-ne0.false c.refused.ensures _
    (rw (c.test-r.ensures.shaped c.if-answer-ne0.false) at (sym c.enough.ensures ∙ c.if-not-enough.true))

pub returns : goal.returns
returns c =
    tests_enough c.test-r.ensures c.if-answer-ne0.false _
    (rw (c.test-r.ensures.shaped c.if-answer-ne0.false) at (sym c.enough.ensures ∙ c.if-not-enough.false))
