-- `shared_runs::run_shared` meets its contract. Assumes nothing.
use Prim.Native.Nat.{◌<◌, ◌^◌}
use native.Mathlib.Omega.{arith}
use lib.ListN.{length}
use Rattle.runner.specs.Laws.Passed.{tested_ready}
use Rattle.shared_runs.specs.Laws.Tests.{job_passes, share_passes}
use Rattle.shared_runs.specs.Laws.Replies.{marks_fit}
use Rattle.shared_runs.specs.Laws.Run.{run_refused, run_went}
use Rattle.shared_runs.proofs.run_shared.Goals as goal

pub returns-then-answer-ne0 : goal.returns-then-answer-ne0
returns-then-answer-ne0 c = run_refused _ _ _ c.tested-tested.ensures c.first_refusal-answer.ensures c.if-answer-ne0.true

pub own-words-requires : goal.own-words-requires
own-words-requires c = share_passes c.tested-tested.ensures _ _ c.first_refusal-answer.ensures c.if-answer-ne0.false

pub common-more-requires : goal.common-more-requires
common-more-requires c = (share_passes c.tested-tested.ensures _ _ c.first_refusal-answer.ensures c.if-answer-ne0.false).0

pub run_tested-r-requires : goal.run_tested-r-requires
run_tested-r-requires c = tested_ready c.tested-tested.ensures (job_passes c.tested-tested.ensures _ _ c.first_refusal-answer.ensures c.if-answer-ne0.false)

pub mark_taken-requires : goal.mark_taken-requires
mark_taken-requires c =
    let short : length c.args.main.now < 2 ^ 64 = omega arith in
    marks_fit _ _ c.own-words.ensures c.common-more.ensures (share_passes c.tested-tested.ensures _ _ c.first_refusal-answer.ensures c.if-answer-ne0.false) short
    c.run_tested-r.ensures.within

pub returns : goal.returns
returns c = run_went _ _ _ c.tested-tested.ensures c.first_refusal-answer.ensures c.if-answer-ne0.false c.own-words.ensures c.common-more.ensures c.run_tested-r.ensures c.mark_taken.ensures
