-- Definitions. The whole reply of a run: its answer and every lent word that it may write, those of the totals among them (document 02, note 5).
-- Assumes nothing.
use Rattle.std.specs.Prelude.{Bool, cond, ◌&&◌, List, ℕ, ◌*◌, eqb, leb, length, replicate}
use Rattle.job.specs.declared.Header.{Header}
use Rattle.job.specs.declared.Answer.{Answer}
use Rattle.job.specs.Job.{answer, accepted, job_of, check_job}
use Rattle.job.specs.Reply.{over}
use Rattle.draws.specs.Draws.{Lent}
use Rattle.draws.specs.Execute.{States, starts, Ended, execute}
use Rattle.rows.specs.Words.{words_per_row, bit_in, tabulated, pack}
use Rattle.totals.specs.Ones.{ones_to}

-- what draws are taken from: the words of the noiseless bits, the two lists of draws and the base of the second
pub record Source : Type 0 where
  pub noiseless : List ℕ
  pub main : List ℕ
  pub second : List ℕ
  pub base : ℕ

-- what a caller lends: the words of the frames' X and Z parts and of the deltas and a list of totals, as they are before the call, and what draws are
-- taken from
pub record Memory : Type 0 where
  pub x : List ℕ
  pub z : List ℕ
  pub deltas : List ℕ
  pub totals : List ℕ
  pub source : Source

-- the same memory with another source
abbrev pub with_source : Memory → Source → Memory
with_source m other = record { x = m.x; z = m.z; deltas = m.deltas; totals = m.totals; source = other }

-- the answer, and the words and the totals after the call
pub record RunReply : Type 0 where
  pub answered : Answer
  pub x : List ℕ
  pub z : List ℕ
  pub deltas : List ℕ
  pub totals : List ℕ

-- the words that the header needs of a row per qubit, and of a row per outcome
abbrev pub frame_words_of : Header → ℕ
frame_words_of h = h.qubits * words_per_row h.shots

abbrev pub outcome_words_of : Header → ℕ
outcome_words_of h = h.outcomes * words_per_row h.shots

-- 13: lent words too few, or a list of totals shorter than the outcomes
unfoldable pub enough_words : Header → Memory → Bool
enough_words h m =
    leb (frame_words_of h) (length m.x)
    && leb (frame_words_of h) (length m.z)
    && leb (outcome_words_of h) (length m.deltas)
    && leb h.outcomes (length m.totals)
    && leb (outcome_words_of h) (length m.source.noiseless)

-- the source with its noiseless bits by outcome and shot
abbrev pub lent_of : Header → Source → Lent
lent_of h s = record { noiseless = bit_in (words_per_row h.shots) s.noiseless; second = s.second; base = s.base; shots = h.shots }

-- a refusal other than 14 leaves all memory untouched
abbrev pub untouched : Answer → Memory → RunReply
untouched a m = record { answered = a; x = m.x; z = m.z; deltas = m.deltas; totals = m.totals }

-- 14: a needed draw lies past its list; needed frame and delta words and totals are zero
unfoldable pub spent_reply : Header → Memory → ℕ → RunReply
spent_reply h m k =
    record {
      answered = answer 14 k;
      x = over (replicate (frame_words_of h) 0) m.x;
      z = over (replicate (frame_words_of h) 0) m.z;
      deltas = over (replicate (outcome_words_of h) 0) m.deltas;
      totals = over (replicate h.outcomes 0) m.totals;
    }

-- a number for each outcome, recorded or not: the ones in its deltas
unfoldable pub flip_totals : Header → States → List ℕ
flip_totals h states = tabulated (λ id. ones_to h.shots (λ s. (states s).deltas id)) h.outcomes

-- the states packed into the needed words, and their totals
unfoldable pub finished_reply : Header → Memory → States → RunReply
finished_reply h m states =
    record {
      answered = accepted;
      x = over (pack h.qubits h.shots (λ q s. (states s).frame.x q)) m.x;
      z = over (pack h.qubits h.shots (λ q s. (states s).frame.z q)) m.z;
      deltas = over (pack h.outcomes h.shots (λ id s. (states s).deltas id)) m.deltas;
      totals = over (flip_totals h states) m.totals;
    }

unfoldable pub ended_reply : Header → Memory → Ended → RunReply
ended_reply h m (Ended.spent_at k) = spent_reply h m k
ended_reply h m (Ended.ended states) = finished_reply h m states

-- The tests of a job, then 13, then 14. Execution is from cleared frames and deltas.
unfoldable pub run_reply : List ℕ → Memory → RunReply
run_reply job m =
    let j = job_of job in
    let run = ended_reply j.header m (execute j.header (lent_of j.header m.source) j.instructions m.source.main starts) in
    let fitting = cond (enough_words j.header m) run (untouched (answer 13 0) m) in
    cond (eqb (check_job job).number 0) fitting (untouched (check_job job) m)
