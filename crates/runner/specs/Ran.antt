-- A run of a job that passed its tests, over lent words that are enough. Definitions. Assumes nothing.
use Rattle.std.specs.Prelude.{◌≡◌, true, List, ℕ, ◌≤◌, length, drop}
use Rattle.job.specs.Job.{job_of, check_job}
use Rattle.draws.specs.Left.{left_after}
use Rattle.rows.specs.declared.Shape.{Shape}
use Rattle.run.specs.Run.{Memory, lent_of, run_reply}
use Rattle.needed_words.specs.declared.Answered.{Answered}
use Rattle.job_shape.specs.Tested.{shape_for}
use Rattle.job_shape.specs.Enough.{enough_lent}

pub record RunReady (job : List ℕ) (shape : Shape) (x z d totals noiseless : List ℕ) : Type 0 where
  pub passes : (check_job job).number ≡ 0
  pub shaped : shape ≡ shape_for (job_of job).header
  pub enough : enough_lent (job_of job).header record { x = length x; z = length z; deltas = length d; totals = length totals; noiseless = length noiseless } ≡ true

-- the reply of the run, and the main list is left at a position
pub record RanTo (job : List ℕ) (m : Memory) (x z d totals : List ℕ) (r : Answered) : Type 0 where
  pub is : run_reply job m ≡ record { answered = r.answer; x = x; z = z; deltas = d; totals = totals }
  pub within : r.taken ≤ length m.source.main
  pub leaves : drop r.taken m.source.main ≡ left_after (lent_of (job_of job).header m.source) (job_of job).instructions m.source.main
