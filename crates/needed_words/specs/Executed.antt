-- Execution of an accepted job to its end, as the code does it. Definitions. Assumes nothing.
use Rattle.std.specs.Prelude.{◌≡◌, List, ℕ, ◌≤◌, length, drop}
use Rattle.job.specs.declared.Answer.{Answer}
use Rattle.job.specs.Job.{answer, accepted}
use Rattle.instructions.specs.Ahead.{instructions_at}
use Rattle.draws.specs.Left.{left_after}
use Rattle.draws.specs.Execute.{States, Ended, execute}
use Rattle.rows.specs.declared.Shape.{Shape}
use Rattle.execution.specs.Holds.{Holds}
use Rattle.execution.specs.Steps.{header_of, lent_by}
use Rattle.needed_words.specs.declared.Answered.{Answered}

-- the words hold the states at the end, or the draws were spent
pub data Finished (all : Ended) (w : ℕ) (x z d : List ℕ) (r : Answer) : Type 0 where
  finished : (states : States) → all ≡ Ended.ended states → r ≡ accepted → Holds w x z d states → Finished all w x z d r
  stopped : (k : ℕ) → all ≡ Ended.spent_at k → r ≡ answer 14 k → Finished all w x z d r

-- and the main list is left at a position
pub record Executes (job : List ℕ) (shape : Shape) (noiseless main second : List ℕ) (base from : ℕ) (x z d x' z' d' : List ℕ) (r : Answered) : Type 0 where
  pub by : (states : States) → Holds shape.width x z d states
      → Finished (execute (header_of job shape) (lent_by shape noiseless second base) (instructions_at job 2 from) main states) shape.width x' z' d' r.answer
  pub within : r.taken ≤ length main
  pub leaves : drop r.taken main ≡ left_after (lent_by shape noiseless second base) (instructions_at job 2 from) main
