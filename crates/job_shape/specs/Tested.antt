-- The tests of a job, then 13, and the shape of the rows of a job that passes them. Definitions. Assumes nothing.
use Rattle.std.specs.Prelude.{◌≡◌, Bool, cond, List, ℕ, eqb}
use Rattle.job.specs.declared.Answer.{Answer}
use Rattle.job.specs.declared.Header.{Header}
use Rattle.job.specs.Job.{answer, job_of, check_job}
use Rattle.rows.specs.declared.Shape.{Shape}
use Rattle.rows.specs.Shape.{shape_of}
use Rattle.job_shape.specs.declared.Tested.{Tested}

abbrev pub shape_for : Header → Shape
shape_for h = shape_of h.qubits h.outcomes h.shots

-- the answer of the tests, and 13 where what is lent is not enough
unfoldable pub tested_answer : List ℕ → Bool → Answer
tested_answer job enough = let lent = cond enough (check_job job) (answer 13 0) in cond (eqb (check_job job).number 0) lent (check_job job)

pub record Tests (job : List ℕ) (enough : Bool) (r : Tested) : Type 0 where
  pub answers : r.answer ≡ tested_answer job enough
  pub shaped : r.answer.number ≡ 0 → r.shape ≡ shape_for (job_of job).header
