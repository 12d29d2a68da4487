-- Theorems about the calls together: what settling writes, a run and a walk on it, and demand 3 from the words that a run leaves to the count that a
-- walk answers. Their proofs stand in Laws. Assumes nothing.
use Rattle.std.specs.Prelude.{◌≡◌, refl, Bool, true, false, cond, List, ℕ, ◌<◌, ◌≤◌, length}
use Rattle.std.proofs.Common.{sym, ap, ◌∙◌, arith}
use Rattle.std.proofs.Math.Option.{none}
use Rattle.pauli.specs.Bits.{sum_over, odd}
use Rattle.text.specs.List.{is_rising_of}
use Rattle.job.specs.Checks.{all_below}
use Rattle.job.specs.Job.{answer, accepted, job_of, recorded_in, check_job}
use Rattle.job.specs.declared.CountReply.{CountReply}
use Rattle.job.specs.Reply.{TextReply, text_fits_of, written_by, written_text, refused_text, refused_count}
use Rattle.draws.specs.Settle.{SettledLine, Settled, settled_list, settled_text, placed_from}
use Rattle.rows.specs.Words.{words_per_row, bit_in}
use Rattle.run.specs.Run.{Source, Memory, outcome_words_of, enough_words, lent_of, spent_reply, run_reply, with_source}
use Rattle.backward.specs.Settling.{settle_reply}
use Rattle.backward.specs.Walking.{first_noise, plain_lines, walkable, walk_reply}
use Rattle.backward.specs.Calls.{settling_of, count_of}
use Rattle.backward.proofs.Theorems.{demand_3}
use Rattle.backward.proofs.Laws.Replies.{settle_writes, writes_these, run_ends}
use Rattle.backward.proofs.Laws.CallsAgree as calls
use Rattle.backward.proofs.Laws.CallsAgree.{placed_quiet, placed_lines, text_accepted, text_job, text_again, text_walked, text_run, reply_sum, walkable_true, walkable_parts}

-- ---- the settled text

-- Settling answered 0, whatever was lent. `written_by` gives the first bytes of its output, as many as its figure says.
module _ (job : List ℕ) (s : Source) (out : List ℕ) (done : (settle_reply job s out).answered.number ≡ 0) where
  -- The job settled, to lines whose text these bytes are; no other byte is changed.
  pub writes_settled : (ls : List SettledLine)
      × (settling_of job s ≡ Settled.settled ls)
      × (written_by (settle_reply job s out) ≡ settled_text (job_of job).text ls)
      × (settle_reply job s out ≡ written_text (settled_text (job_of job).text ls) out)
  writes_settled = let (ls, w) = settle_writes job s out done in (ls, w.settles, w.text, w.reply)

  -- They pass the tests of a job.
  pub written_accepted : check_job (written_by (settle_reply job s out)) ≡ accepted
  written_accepted = let (ls, w) = settle_writes job s out done in rw w.text (text_accepted job w.passes s ls w.settles w.few)

  -- Settled once more they are written again, whatever is lent then, wherever there is room.
  pub written_again : (other : Source) (lent : List ℕ) → outcome_words_of (job_of job).header ≤ length other.noiseless
      → length (written_by (settle_reply job s out)) ≤ length lent
      → settle_reply (written_by (settle_reply job s out)) other lent ≡ written_text (written_by (settle_reply job s out)) lent
  written_again other lent enough fits =
      let (ls, w) = settle_writes job s out done in
      rw w.text (text_again job w.passes s ls w.settles w.few other lent enough (rw w.text at fits))

  -- For the lines to which the job settles:
  module _ (ls : List SettledLine) (settles : settling_of job s ≡ Settled.settled ls) where
    -- The bytes are a job of the same header, and its instructions are the lines with their texts, one to a line, in order.
    pub written_job : job_of (written_by (settle_reply job s out)) ≡ record { header = (job_of job).header; text = (job_of job).text; instructions = placed_from 2 ls }
    written_job = let w = writes_these job s out done ls settles in rw w.text (text_job job w.passes s ls settles w.few)

    -- There is no noise, and its lines are the settled list.
    pub written_quiet : (first_noise (job_of (written_by (settle_reply job s out))).instructions ≡ none)
        × (plain_lines (job_of (written_by (settle_reply job s out))).instructions ≡ settled_list ls)
    written_quiet = rw written_job (placed_quiet 2 ls, placed_lines 2 ls)

    -- A walk on them counts, for a shot of the job and a set of its recorded outcomes, what the walk of the lines counts. For any other shot or set it
    -- answers 17, and never 16.
    pub written_walked : (shot : ℕ) (set : List ℕ)
        → walk_reply (written_by (settle_reply job s out)) shot set
        ≡ cond (walkable (job_of job) shot set) (record { answered = accepted; count = count_of job ls shot set }) (refused_count (answer 17 0))
    written_walked shot set = let w = writes_these job s out done ls settles in rw w.text (text_walked job w.passes s ls settles w.few shot set)

-- A run of these bytes needs no draws: with any source that has the noiseless words which a run needs, it leaves what the run of the job left.
pub written_run : (job : List ℕ) (m : Memory) (out : List ℕ) → (run_reply job m).answered.number ≡ 0 → (settle_reply job m.source out).answered.number ≡ 0
    → (other : Source) → outcome_words_of (job_of job).header ≤ length other.noiseless
    → run_reply (written_by (settle_reply job m.source out)) (with_source m other) ≡ run_reply job m
written_run job m out ran done other words =
    let (ls, w) = settle_writes job m.source out done in
    rw w.text (text_run job m ls w.passes (run_ends job m ran).enough w.settles w.few other words)

-- ---- runs and settling

-- With the same words, base and bits:
module _ (job : List ℕ) (m : Memory) where
  -- Where a run comes to its end the job settles, and settling answers 0, or 15 where the text does not fit.
  pub ran_settles : (run_reply job m).answered.number ≡ 0
      → (ls : List SettledLine)
      × (settling_of job m.source ≡ Settled.settled ls)
      × ((out : List ℕ)
      → (settle_reply job m.source out).answered ≡ cond (text_fits_of (settled_text (job_of job).text ls) out) accepted (answer 15 0))
  ran_settles ran =
      let (ls, settles, replies) = calls.ran_settles job m ran in
      (ls, settles, λ out. ap (λ (r : TextReply). r.answered) (replies out) ∙ calls.settled_number (job_of job) ls out)

  -- Draws that are spent in a run are spent in settling, at the same line.
  pub ran_spent : (k : ℕ) → (run_reply job m).answered ≡ answer 14 k → (out : List ℕ) → settle_reply job m.source out ≡ refused_text (answer 14 k) out
  ran_spent k spent out = calls.ran_spent job m k spent out

  -- And the other way round for an accepted job, where the words of frames and deltas, which settling does not need, are enough.
  pub settling_spent : (k : ℕ) (out : List ℕ) → (check_job job).number ≡ 0 → enough_words (job_of job).header m ≡ true
      → (settle_reply job m.source out).answered ≡ answer 14 k → run_reply job m ≡ spent_reply (job_of job).header m k
  settling_spent k out passes enough spent = calls.settling_spent job m k out passes enough spent

-- ---- demand 3

-- Of a job and of what was lent:
pub record Demand3 (job : List ℕ) (m : Memory) : Type 0 where
  -- The walk takes the settled list that the same words, base and bits give.
  pub lines : List SettledLine
  pub settles : settling_of job m.source ≡ Settled.settled lines
  -- For every set of its recorded outcomes and every one of its shots, the sum of the set's deltas in that shot equals modulo 2 the count that the backward
  -- walk makes for that set and shot.
  pub sums : (set : List ℕ) → is_rising_of set ≡ true → all_below (recorded_in (job_of job).instructions) set ≡ true
      → (shot : ℕ) → shot < (job_of job).header.shots
      → sum_over set (λ id. bit_in (words_per_row (job_of job).header.shots) (run_reply job m).deltas id shot) ≡ odd (count_of job lines shot set)
  -- Where settling writes that list, the walk called on the text answers this count.
  pub walked : (out : List ℕ) → (settle_reply job m.source out).answered.number ≡ 0
      → (set : List ℕ) → is_rising_of set ≡ true → all_below (recorded_in (job_of job).instructions) set ≡ true
      → (shot : ℕ) → shot < (job_of job).header.shots
      → walk_reply (written_by (settle_reply job m.source out)) shot set ≡ record { answered = accepted; count = count_of job lines shot set }

-- Take any job that passes the checks, with lines of any kind, noise included, in any order. Run it to its end (a run that refuses has no part in this),
-- whatever draw words, base and noiseless bits are lent and whatever the frames and deltas held before.
pub demand_3_calls : (job : List ℕ) (m : Memory) → (run_reply job m).answered.number ≡ 0 → Demand3 job m
demand_3_calls job m ran =
    let r = run_ends job m ran in
    let (ls, settles, counts) = demand_3 job r.passes (lent_of (job_of job).header m.source) m.source.main r.states r.ends in
    record {
      lines = ls;
      settles = settles;
      sums = λ set rising recorded shot below. reply_sum job m r set recorded shot below ∙ counts set rising recorded shot;
      walked = λ out done set rising recorded shot below.
          written_walked job m.source out done ls settles shot set ∙ rw (walkable_true (job_of job) shot set below rising recorded);
    }

-- So any three calls that answer 0 agree: over the set of a walk on the text that settling wrote, the deltas that the run left sum to what the walk counted.
pub deltas_walked : (job : List ℕ) (m : Memory) (out : List ℕ) (shot : ℕ) (set : List ℕ) → (run_reply job m).answered.number ≡ 0
    → (settle_reply job m.source out).answered.number ≡ 0 → (walk_reply (written_by (settle_reply job m.source out)) shot set).answered.number ≡ 0
    → sum_over set (λ id. bit_in (words_per_row (job_of job).header.shots) (run_reply job m).deltas id shot)
    ≡ odd (walk_reply (written_by (settle_reply job m.source out)) shot set).count
deltas_walked job m out shot set ran done zero = go (walkable (job_of job) shot set) refl
  where
    d : Demand3 job m
    d = demand_3_calls job m ran

    walk_of : walk_reply (written_by (settle_reply job m.source out)) shot set
        ≡ cond (walkable (job_of job) shot set) (record { answered = accepted; count = count_of job d.lines shot set }) (refused_count (answer 17 0))
    walk_of = written_walked job m.source out done d.lines d.settles shot set

    go : (b : Bool) → walkable (job_of job) shot set ≡ b
        → sum_over set (λ id. bit_in (words_per_row (job_of job).header.shots) (run_reply job m).deltas id shot)
        ≡ odd (walk_reply (written_by (settle_reply job m.source out)) shot set).count
    go true e =
        let p = walkable_parts (job_of job) shot set e in
        d.sums set p.rising p.recorded shot p.below ∙ ap odd (sym (ap (λ (r : CountReply). r.count) (rw e at walk_of)))
    go false e = let no : ◌≡◌ {A = ℕ} 0 17 = sym zero ∙ ap (λ (r : CountReply). r.answered.number) (rw e at walk_of) in absurd (omega arith)
