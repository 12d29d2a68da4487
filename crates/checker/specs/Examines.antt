-- What an examination says of a job. Definitions. Assumes nothing.
use Rattle.std.specs.Prelude.{ℕ, ◌≡◌, List, length}
use Rattle.text.specs.Bytes.{lines}
use Rattle.job.specs.Job.{check_job, job_of, recorded_in}
use Rattle.checker.specs.declared.Examined.{Examined}

-- the header's numbers, the outcomes that the instructions record, and the lines
pub record Finds (job : List ℕ) (r : Examined) : Type 0 where
  pub header : r.header ≡ (job_of job).header
  pub recorded : r.recorded ≡ recorded_in (job_of job).instructions
  pub lines_in : r.lines ≡ length (lines job)

-- the answer of the tests of a job, and where they accept the job what was found
pub record Examines (job : List ℕ) (r : Examined) : Type 0 where
  pub answers : r.answer ≡ check_job job
  pub finds : (check_job job).number ≡ 0 → Finds job r
