-- `settling::settle` meets its contract. Assumes nothing.
use Rattle.settling.specs.Laws.Reply.{refused_reply, tested_fits, settled_alone}
use Rattle.job_shape.specs.Laws.Tested.{nothing_behind}
use Rattle.settling.proofs.settle.Goals as goal

pub returns-then-answer-ne0 : goal.returns-then-answer-ne0
returns-then-answer-ne0 c = refused_reply _ _ _ c.tested-tested.ensures c.if-answer-ne0.true c.refused.ensures

pub settle_tested-r-requires : goal.settle_tested-r-requires
settle_tested-r-requires c = tested_fits c.tested-tested.ensures c.if-answer-ne0.false

pub returns : goal.returns
returns c = settled_alone _ _ _ _ _ (nothing_behind c.args.main.now) c.settle_tested-r.ensures
