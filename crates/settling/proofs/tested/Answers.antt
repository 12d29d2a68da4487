-- `settling::tested` meets its contract. Assumes nothing.
use Rattle.job_shape.specs.Laws.Tested.{tests_refused}
use Rattle.settling.specs.Laws.Reply.{few_words, missing_words, enough_words}
use mathlib.Core.Path.{refl}
use native.Mathlib.Omega.{arith}
use Rattle.settling.proofs.tested.Goals as goal

pub returns-then-answer-ne0 : goal.returns-then-answer-ne0
returns-then-answer-ne0 c = tests_refused c.test-r.ensures _ c.if-answer-ne0.true

pub overflow_mul-shape : goal.overflow_mul-shape
overflow_mul-shape c = omega (arith, few_words c.test-r.ensures c.if-answer-ne0.false)

pub returns-then-noiseless-shape : goal.returns-then-noiseless-shape
returns-then-noiseless-shape c = missing_words c.test-r.ensures c.if-answer-ne0.false _ refl c.if-noiseless-shape.true

pub returns : goal.returns
returns c = enough_words c.test-r.ensures c.if-answer-ne0.false _ c.if-noiseless-shape.false
