-- `runner::run_tested` meets its contract.
use Rattle.runner.specs.Laws.Passed.{passed_at, needed_ready, needed_reply}
use Rattle.runner.specs.Laws.Replies.{same_test}
use Rattle.job_shape.specs.Laws.Enough.{range, row_words, enough_words}
use lib.Seq.{length-take-le}
use mathlib.Core.Path.{sym, ◌∙◌}
use native.Mathlib.Omega.{arith}
use Rattle.runner.proofs.run_tested.Goals as goal

pub overflow_mul-frame_words : goal.overflow_mul-frame_words
overflow_mul-frame_words c = let r = range _ c.requires.passes in rw c.requires.shaped record { fits = row_words _ _ (omega (arith, r.few_qubits)) r.few_shots }

pub overflow_mul-outcome_words : goal.overflow_mul-outcome_words
overflow_mul-outcome_words c = let r = range _ c.requires.passes in rw c.requires.shaped record { fits = row_words _ _ r.few_outcomes r.few_shots }

pub slice_bounds-run_needed-end : goal.slice_bounds-run_needed-end
slice_bounds-run_needed-end c = rw c.requires.shaped (enough_words c.requires.enough).of_x

pub slice_bounds-run_needed-end-2 : goal.slice_bounds-run_needed-end-2
slice_bounds-run_needed-end-2 c = rw c.requires.shaped (sym (length-take-le _ _ (enough_words c.requires.enough).of_x))

pub slice_bounds-run_needed-end-3 : goal.slice_bounds-run_needed-end-3
slice_bounds-run_needed-end-3 c = rw c.requires.shaped (enough_words c.requires.enough).of_z

pub slice_bounds-run_needed-end-4 : goal.slice_bounds-run_needed-end-4
slice_bounds-run_needed-end-4 c = rw c.requires.shaped (sym (length-take-le _ _ (enough_words c.requires.enough).of_z))

pub slice_bounds-run_needed-end-5 : goal.slice_bounds-run_needed-end-5
slice_bounds-run_needed-end-5 c = rw c.requires.shaped (enough_words c.requires.enough).of_deltas

pub slice_bounds-run_needed-end-6 : goal.slice_bounds-run_needed-end-6
slice_bounds-run_needed-end-6 c = rw c.requires.shaped (sym (length-take-le _ _ (enough_words c.requires.enough).of_deltas))

pub slice_bounds-run_needed-end-7 : goal.slice_bounds-run_needed-end-7
slice_bounds-run_needed-end-7 c = rw c.requires.shaped (enough_words c.requires.enough).of_totals

pub slice_bounds-run_needed-end-8 : goal.slice_bounds-run_needed-end-8
slice_bounds-run_needed-end-8 c = rw c.requires.shaped (sym (length-take-le _ _ (enough_words c.requires.enough).of_totals))

pub run_needed-requires : goal.run_needed-requires
run_needed-requires c =
    let e = enough_words c.requires.enough in
    rw c.requires.shaped
    (needed_ready (passed_at _ c.requires.passes c.behind_header-from.ensures)
    (length-take-le _ _ e.of_x)
    (length-take-le _ _ e.of_z)
    (length-take-le _ _ e.of_deltas)
    (length-take-le _ _ e.of_totals)
    e.of_noiseless)

pub returns : goal.returns
returns c =
    rw c.requires.shaped
    (needed_reply (passed_at _ c.requires.passes c.behind_header-from.ensures) _ (sym (same_test _ _) ∙ c.requires.enough) (rw c.requires.shaped at c.run_needed.ensures))
