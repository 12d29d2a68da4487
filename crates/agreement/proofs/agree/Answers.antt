-- `agreement::agree` meets its contract. Assumes nothing.
use lib.Seq.{length-take-le}
use mathlib.Core.Path.{sym}
use Rattle.agreement.specs.Laws.Replies.{run_accepted, text_within, run_refused, settle_refused, walk_refused, rows_ready, none_refused}
use Rattle.agreement.proofs.agree.Goals as goal

pub returns-then-ran-ne0 : goal.returns-then-ran-ne0
returns-then-ran-ne0 c = run_refused _ _ _ _ _ c.run-ran.ensures c.if-ran-ne0.true c.refused.ensures

pub returns-then-written-ne0 : goal.returns-then-written-ne0
returns-then-written-ne0 c = settle_refused _ _ _ _ _ c.run-ran.ensures c.if-ran-ne0.false c.settle-settled.ensures c.if-written-ne0.true c.refused-then-written-ne0.ensures

pub slice_bounds-walk-end : goal.slice_bounds-walk-end
slice_bounds-walk-end c = text_within _ _ _ c.settle-settled.ensures c.if-written-ne0.false

pub slice_bounds-walk-end-2 : goal.slice_bounds-walk-end-2
slice_bounds-walk-end-2 c = sym (length-take-le _ _ (text_within _ _ _ c.settle-settled.ensures c.if-written-ne0.false))

pub shape_of-x-then-answer-ne0 : goal.shape_of-x-then-answer-ne0
shape_of-x-then-answer-ne0 c = c.run-ran.auto.x

pub shape_of-z-then-answer-ne0 : goal.shape_of-z-then-answer-ne0
shape_of-z-then-answer-ne0 c = c.run-ran.auto.z

pub shape_of-deltas-then-answer-ne0 : goal.shape_of-deltas-then-answer-ne0
shape_of-deltas-then-answer-ne0 c = c.run-ran.auto.deltas

pub returns-then-answer-ne0 : goal.returns-then-answer-ne0
returns-then-answer-ne0 c = walk_refused _ _ _ _ _ c.run-ran.ensures c.if-ran-ne0.false c.settle-settled.ensures c.if-written-ne0.false c.walk-walked.ensures c.if-answer-ne0.true c.refused-then-answer-ne0.ensures

pub row_words-requires : goal.row_words-requires
row_words-requires c = run_accepted _ _ c.run-ran.ensures c.if-ran-ne0.false

pub delta_sum-sum-requires : goal.delta_sum-sum-requires
delta_sum-sum-requires c = rows_ready _ _ _ _ _ c.run-ran.ensures c.if-ran-ne0.false c.settle-settled.ensures c.if-written-ne0.false c.walk-walked.ensures c.if-answer-ne0.false c.row_words.ensures c.run-ran.auto.deltas

pub shape_of-x : goal.shape_of-x
shape_of-x c = c.run-ran.auto.x

pub shape_of-z : goal.shape_of-z
shape_of-z c = c.run-ran.auto.z

pub returns : goal.returns
returns c = none_refused _ _ _ _ _ c.run-ran.ensures c.if-ran-ne0.false c.settle-settled.ensures c.if-written-ne0.false c.walk-walked.ensures c.if-answer-ne0.false c.row_words.ensures c.delta_sum-sum.ensures
