-- What a run of a job prints, and what it is lent. Definitions. Assumes nothing.
use Rattle.std.specs.Prelude.{List, ℕ, ◌≡◌, true, replicate}
use Rattle.text.specs.Bytes.{unlines}
use Rattle.job.specs.declared.Header.{Header}
use Rattle.job.specs.Job.{check_job, job_of, recorded_in}
use Rattle.session.specs.Session.{small_enough, lent_memory, reply_lines}
use Rattle.run.specs.Run.{frame_words_of, outcome_words_of, run_reply}

-- what a run of a job comes to, with the words that its header needs
unfoldable pub ran_text : List ℕ → List ℕ
ran_text job = unlines (reply_lines (job_of job) (run_reply job (lent_memory (job_of job).header)))

-- an accepted job with this header, which is within the limits, and with so many recorded outcomes
pub record RunsSmall (job : List ℕ) (h : Header) (n : ℕ) : Type 0 where
  pub accepted : (check_job job).number ≡ 0
  pub header : h ≡ (job_of job).header
  pub recorded : n ≡ recorded_in (job_of job).instructions
  pub small : small_enough h ≡ true

-- the words and totals that a header needs, all 0
pub record Lends (h : Header) (x z deltas totals noiseless : List ℕ) : Type 0 where
  pub x_words : x ≡ replicate (frame_words_of h) 0
  pub z_words : z ≡ replicate (frame_words_of h) 0
  pub delta_words : deltas ≡ replicate (outcome_words_of h) 0
  pub of_totals : totals ≡ replicate h.outcomes 0
  pub noiseless_words : noiseless ≡ replicate (outcome_words_of h) 0
