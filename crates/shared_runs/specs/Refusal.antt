-- Definitions. The refusal that comes first. Assumes nothing.
use Rattle.std.specs.Prelude.{cond, List, ℕ, eqb}
use Rattle.job.specs.declared.Answer.{Answer}
use Rattle.job.specs.Job.{answer}
use Rattle.shares.specs.Shares.{Share}
use Rattle.share_marks.specs.Fit.{share_number_of}

-- that of a job and of what is lent to it, which answered, else that of a share, without a line
unfoldable pub first_refusal_of : Answer → Share → List ℕ → Answer
first_refusal_of a s main = cond (eqb a.number 0) (answer (share_number_of s main) 0) a
