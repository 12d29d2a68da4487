-- The settled text of a whole job, put by a pass over it, and where the job leaves the main list. Definitions. Assumes nothing.
use Rattle.std.specs.Prelude.{◌≡◌, Result, Ok, Err, cond, ◌||◌, List, ℕ, ◌*◌, ◌≤◌, eqb, length, drop}
use Rattle.job.specs.Job.{job_of, check_job}
use Rattle.writer.specs.Placed.{Puts}
use Rattle.writer.specs.Reply.{text_reply}
use Rattle.draws.specs.Left.{left_after}
use Rattle.draws.specs.Settle.{SettledLine, Settled, settle, settled_text}
use Rattle.rows.specs.Words.{words_per_row}
use Rattle.run.specs.Run.{Source, lent_of}
use Rattle.backward.specs.Settling.{settle_reply}
use Rattle.settling.specs.declared.Answered.{Answered}
use Rattle.settling.specs.declared.Length.{Length}
use Rattle.settling.specs.declared.SpentAt.{SpentAt}
use Rattle.settling.specs.Pass.{Pass, lent_by}

-- what all instructions come to
abbrev pub settled_by : Pass → Settled
settled_by p = settle (lent_by p) (job_of p.job).instructions p.main

-- and what they leave of the main list
abbrev pub left_by_all : Pass → List ℕ
left_by_all p = left_after (lent_by p) (job_of p.job).instructions p.main

-- the job is accepted, and the noiseless bits suffice
pub record Fits (p : Pass) : Type 0 where
  pub passes : (check_job p.job).number ≡ 0
  pub shots_are : (job_of p.job).header.shots ≡ p.shape.shots
  pub words_are : p.shape.width ≡ words_per_row p.shape.shots
  pub rows : (job_of p.job).header.outcomes * p.shape.width ≤ length p.noiseless

-- the words of the main list that were taken
unfoldable pub taken_for : Result Length SpentAt → ℕ
taken_for (Ok length) = length.taken
taken_for (Err spent) = spent.taken

-- the settled text was put from place 0 on, and is so long; or the draws of a line were spent
pub record TextPut (p : Pass) (out : List ℕ) (ls : List SettledLine) (after : List ℕ) (r : Result Length SpentAt) : Type 0 where
  pub long : ℕ
  pub is : r ≡ Ok (record { bytes = long; taken = taken_for r })
  pub puts : Puts 0 (settled_text (job_of p.job).text ls) out after long

unfoldable pub PutAll : Pass → List ℕ → Settled → List ℕ → Result Length SpentAt → Type 0
PutAll p out (Settled.spent_at k) after r = r ≡ Err (record { line = k; taken = taken_for r })
PutAll p out (Settled.settled ls) after r = TextPut p out ls after r

pub record SettledPut (p : Pass) (out after : List ℕ) (r : Result Length SpentAt) : Type 0 where
  pub put : PutAll p out (settled_by p) after r
  pub within : taken_for r ≤ length p.main
  pub leaves : drop (taken_for r) p.main ≡ left_by_all p

-- the reply of settling, and the main list is left at a position: with success and 14 where the job leaves it, else where it begins
pub record SettledTo (job : List ℕ) (source : Source) (out after : List ℕ) (r : Answered) : Type 0 where
  pub is : text_reply r.answer after ≡ settle_reply job source out
  pub within : r.taken ≤ length source.main
  pub leaves : drop r.taken source.main
      ≡ cond (eqb r.answer.answer.number 0 || eqb r.answer.answer.number 14)
      (left_after (lent_of (job_of job).header source) (job_of job).instructions source.main) source.main
