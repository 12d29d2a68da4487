-- What a run leaves in the words that it needs, of which exactly so many are lent. Definitions. Assumes nothing.
use Rattle.std.specs.Prelude.{◌≡◌, List, ℕ, ◌≤◌, length, replicate, drop}
use Rattle.job.specs.declared.Header.{Header}
use Rattle.job.specs.Job.{answer, accepted}
use Rattle.job.specs.Sound.{InstructionsSound}
use Rattle.instructions.specs.Ahead.{instructions_at, Ahead}
use Rattle.draws.specs.Left.{left_after}
use Rattle.draws.specs.Execute.{starts, Ended, execute}
use Rattle.rows.specs.declared.Shape.{Shape}
use Rattle.rows.specs.Words.{words_per_row, pack}
use Rattle.needed_words.specs.declared.Answered.{Answered}
use Rattle.execution.specs.Steps.{header_of}
use Rattle.run.specs.Run.{Source, RunReply, frame_words_of, outcome_words_of, lent_of, flip_totals}

-- zero words and totals where draws were spent, else the packed states and their totals
unfoldable pub needed_reply : Header → Ended → RunReply
needed_reply h (Ended.spent_at k) =
    record {
      answered = answer 14 k;
      x = replicate (frame_words_of h) 0;
      z = replicate (frame_words_of h) 0;
      deltas = replicate (outcome_words_of h) 0;
      totals = replicate h.outcomes 0;
    }
needed_reply h (Ended.ended states) =
    record {
      answered = accepted;
      x = pack h.qubits h.shots (λ q s. (states s).frame.x q);
      z = pack h.qubits h.shots (λ q s. (states s).frame.z q);
      deltas = pack h.outcomes h.shots (λ id s. (states s).deltas id);
      totals = flip_totals h states;
    }

-- ---- a run over exactly the words that it needs

-- the header was read, and the lines behind it begin at `from`; the words are rows for the job
pub record NeededReady (job : List ℕ) (shape : Shape) (from : ℕ) (x z d totals noiseless : List ℕ) : Type 0 where
  pub ahead : Ahead job (header_of job shape) 0 2 from
  pub sound : InstructionsSound (header_of job shape) 0 (instructions_at job 2 from)
  pub words : shape.width ≡ words_per_row shape.shots
  pub of_x : length x ≡ frame_words_of (header_of job shape)
  pub of_z : length z ≡ frame_words_of (header_of job shape)
  pub of_deltas : length d ≡ outcome_words_of (header_of job shape)
  pub of_totals : length totals ≡ shape.outcomes
  pub of_noiseless : outcome_words_of (header_of job shape) ≤ length noiseless

-- the answer and the words and totals after it are the reply, and the main list is left at a position
pub record NeededRun (job : List ℕ) (h : Header) (source : Source) (from : ℕ) (x z d totals : List ℕ) (r : Answered) : Type 0 where
  pub is : needed_reply h (execute h (lent_of h source) (instructions_at job 2 from) source.main starts)
      ≡ record { answered = r.answer; x = x; z = z; deltas = d; totals = totals }
  pub within : r.taken ≤ length source.main
  pub leaves : drop r.taken source.main ≡ left_after (lent_of h source) (instructions_at job 2 from) source.main
