-- `job_shape::test` meets its contract.
use Rattle.job_shape.specs.Laws.Tested.{examined_refused, few_shots, examined_passed}
use Rattle.job_shape.proofs.test.Goals as goal

pub returns-then-answer-ne0 : goal.returns-then-answer-ne0
returns-then-answer-ne0 c = examined_refused c.examine-examined.ensures c.if-answer-ne0.true

pub shape_of-requires : goal.shape_of-requires
shape_of-requires c = few_shots c.examine-examined.ensures c.if-answer-ne0.false

pub returns : goal.returns
returns c = examined_passed c.examine-examined.ensures c.if-answer-ne0.false c.shape_of-2.ensures
