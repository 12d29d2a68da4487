-- `shared_runs::settle_shared` meets its contract. Assumes nothing.
use Prim.Native.Nat.{◌<◌, ◌^◌}
use native.Mathlib.Omega.{arith}
use lib.ListN.{length}
use Rattle.settling.specs.Laws.Reply.{tested_fits}
use Rattle.shared_runs.specs.Laws.Tests.{job_passes, share_passes}
use Rattle.shared_runs.specs.Laws.Replies.{marks_fit}
use Rattle.shared_runs.specs.Laws.Settle.{settle_refused, settle_went}
use Rattle.shared_runs.proofs.settle_shared.Goals as goal

pub returns-then-answer-ne0 : goal.returns-then-answer-ne0
returns-then-answer-ne0 c = settle_refused _ _ _ _ c.tested-tested.ensures c.first_refusal-answer.ensures c.if-answer-ne0.true c.refused.ensures

pub own-words-requires : goal.own-words-requires
own-words-requires c = share_passes c.tested-tested.ensures _ _ c.first_refusal-answer.ensures c.if-answer-ne0.false

pub common-more-requires : goal.common-more-requires
common-more-requires c = (share_passes c.tested-tested.ensures _ _ c.first_refusal-answer.ensures c.if-answer-ne0.false).0

pub settle_tested-r-requires : goal.settle_tested-r-requires
settle_tested-r-requires c = tested_fits c.tested-tested.ensures (job_passes c.tested-tested.ensures _ _ c.first_refusal-answer.ensures c.if-answer-ne0.false)

pub mark_taken-requires : goal.mark_taken-requires
mark_taken-requires c =
    let short : length c.args.main.now < 2 ^ 64 = omega arith in
    marks_fit _ _ c.own-words.ensures c.common-more.ensures (share_passes c.tested-tested.ensures _ _ c.first_refusal-answer.ensures c.if-answer-ne0.false) short
    c.settle_tested-r.ensures.within

pub returns : goal.returns
returns c = settle_went _ _ _ _ c.tested-tested.ensures c.first_refusal-answer.ensures c.if-answer-ne0.false c.own-words.ensures c.common-more.ensures c.settle_tested-r.ensures c.mark_taken.ensures
