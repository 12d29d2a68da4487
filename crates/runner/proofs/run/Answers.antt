-- `runner::run` meets its contract.
use Rattle.runner.specs.Laws.Passed.{tested_ready, refused_reply, ran_alone}
use Rattle.job_shape.specs.Laws.Tested.{nothing_behind}
use Rattle.runner.proofs.run.Goals as goal

pub returns-then-answer-ne0 : goal.returns-then-answer-ne0
returns-then-answer-ne0 c = refused_reply _ _ c.tested-tested.ensures c.if-answer-ne0.true

pub run_tested-r-requires : goal.run_tested-r-requires
run_tested-r-requires c = tested_ready c.tested-tested.ensures c.if-answer-ne0.false

pub returns : goal.returns
returns c =
    let main = c.args.main.now in
    ran_alone _ _ _ (nothing_behind main) c.run_tested-r.ensures
