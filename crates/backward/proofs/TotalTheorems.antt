-- Theorems about the totals of a run: each is the ones in its delta row, and the settled list gives the same. Assumes nothing.
use Rattle.std.specs.Prelude.{◌≡◌, List, ℕ, ◌<◌, ◌≤◌, length, get_or}
use Rattle.std.proofs.Common.{sym, ap, ◌∙◌}
use Rattle.job.specs.declared.Header.{Header}
use Rattle.job.specs.Line.{Placed}
use Rattle.job.specs.Job.{recorded_in, job_of}
use Rattle.job.specs.Reply.{written_by}
use Rattle.draws.specs.Draws.{Lent}
use Rattle.draws.specs.Settle.{SettledLine, Settled, settle, settled_list}
use Rattle.draws.specs.Execute.{States, Ended, execute}
use Rattle.draws.specs.Known.{run_all}
use Rattle.draws.proofs.Theorems.{executed_ended}
use Rattle.rows.specs.Words.{words_per_row, bit_in}
use Rattle.totals.specs.Ones.{ones_to}
use Rattle.run.specs.Run.{Source, Memory, RunReply, outcome_words_of, flip_totals, run_reply, with_source}
use Rattle.backward.specs.Settling.{settle_reply}
use Rattle.backward.proofs.CallTheorems.{written_run}
use Rattle.backward.proofs.Laws.Replies.{run_ends}
use Rattle.backward.proofs.Laws.Totals.{reply_total, reply_unrecorded}

-- After a run that answers 0, the total of each of the header's outcomes is the number of ones in its delta row, over the job's shots.
pub totals_deltas : (job : List ℕ) (m : Memory) → (run_reply job m).answered.number ≡ 0 → (id : ℕ) → id < (job_of job).header.outcomes
    → get_or (run_reply job m).totals id 0 ≡ ones_to (job_of job).header.shots (bit_in (words_per_row (job_of job).header.shots) (run_reply job m).deltas id)
totals_deltas job m ran id below = reply_total job m (run_ends job m ran) id below

-- The total of an outcome that no line of the job records is 0.
pub totals_unrecorded : (job : List ℕ) (m : Memory) → (run_reply job m).answered.number ≡ 0 → (id : ℕ) → recorded_in (job_of job).instructions ≤ id
    → id < (job_of job).header.outcomes → get_or (run_reply job m).totals id 0 ≡ 0
totals_unrecorded job m ran id unrecorded below = reply_unrecorded job m (run_ends job m ran) id unrecorded below

-- The settled list, with the same words, base and bits, gives the same totals: on lists, and from whatever states execution begins,
pub totals_settled : (h : Header) (lent : Lent) (is : List Placed) (main : List ℕ) (states ends : States) (ls : List SettledLine)
    → settle lent is main ≡ Settled.settled ls → execute h lent is main states ≡ Ended.ended ends
    → flip_totals h (run_all h (settled_list ls) states) ≡ flip_totals h ends
unfolding run_all
totals_settled h lent is main states ends ls settles executes =
    let ended : Ended.ended (run_all h (settled_list ls) states) ≡ Ended.ended ends = sym (executed_ended h lent is main states ls settles) ∙ executes in
    let same : run_all h (settled_list ls) states ≡ ends = cc in
    ap (flip_totals h) same

-- and on the calls: a run of the text that settling writes, which needs no draws, leaves the totals that the run of the job left.
pub totals_written : (job : List ℕ) (m : Memory) (out : List ℕ) → (run_reply job m).answered.number ≡ 0 → (settle_reply job m.source out).answered.number ≡ 0
    → (other : Source) → outcome_words_of (job_of job).header ≤ length other.noiseless
    → (run_reply (written_by (settle_reply job m.source out)) (with_source m other)).totals ≡ (run_reply job m).totals
totals_written job m out ran done other words = ap (λ (r : RunReply). r.totals) (written_run job m out ran done other words)
