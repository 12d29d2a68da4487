-- Definitions. The whole reply of settling: its answer, its byte figure, and every lent byte. Assumes nothing.
use Rattle.std.specs.Prelude.{cond, List, ℕ, eqb, leb, length}
use Rattle.job.specs.Job.{answer, Job, job_of, check_job}
use Rattle.job.specs.Reply.{TextReply, refused_text, text_fits_of, written_text}
use Rattle.draws.specs.Settle.{Settled, settle, settled_text}
use Rattle.run.specs.Run.{Source, outcome_words_of, lent_of}

-- 14, then 15: text longer than lent bytes or 1,048,576. The figure with 15 is the need.
unfoldable pub settled_answer : Job → Settled → List ℕ → TextReply
settled_answer j (Settled.spent_at k) out = refused_text (answer 14 k) out
settled_answer j (Settled.settled ls) out =
    let text = settled_text j.text ls in
    cond (text_fits_of text out) (written_text text out) (record { answered = answer 15 0; figure = length text; out = out })

-- The tests of a job, then 13 (settling needs the noiseless bits only), 14 and 15.
unfoldable pub settle_reply : List ℕ → Source → List ℕ → TextReply
settle_reply job s out =
    let j = job_of job in
    let settled = settled_answer j (settle (lent_of j.header s) j.instructions s.main) out in
    let fitting = cond (leb (outcome_words_of j.header) (length s.noiseless)) settled (refused_text (answer 13 0) out) in
    cond (eqb (check_job job).number 0) fitting (refused_text (check_job job) out)
