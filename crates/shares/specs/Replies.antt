-- Definitions. The replies of a run and of settling by a caller with a share. Assumes nothing.
use Rattle.std.specs.Prelude.{Bool, cond, ◌&&◌, ◌||◌, List, ℕ, ◌-◌, eqb, leb, length}
use Rattle.job.specs.declared.Answer.{Answer}
use Rattle.job.specs.Job.{answer, Job, job_of, check_job}
use Rattle.job.specs.Reply.{TextReply, refused_text}
use Rattle.draws.specs.Left.{left_after}
use Rattle.run.specs.Run.{Source, Memory, RunReply, outcome_words_of, enough_words, lent_of, untouched, run_reply, with_source}
use Rattle.backward.specs.Settling.{settle_reply}
use Rattle.shares.specs.Shares.{Share, available, marks_fit, shares_fit_of, caller_fits, marks_after}

-- ---- the words of a job

-- the source with the words available in place of the main list
abbrev pub shared : Share → Source → Source
shared s from = record { noiseless = from.noiseless; main = available s from.main; second = from.second; base = from.base }

-- how many words of the main list a job takes
unfoldable pub taken_by : Job → Source → ℕ
taken_by j from = length from.main - length (left_after (lent_of j.header from) j.instructions from.main)

-- with success, and with 14 for either list, the words taken stay taken; a job refused by any other number takes none
unfoldable pub takes_words : Answer → Bool
takes_words a = eqb a.number 0 || eqb a.number 14

unfoldable pub marks_for : Job → Share → Source → Answer → List ℕ
marks_for j s from a = cond (takes_words a) (marks_after s from.main (taken_by j (shared s from))) s.marks

-- ---- the calls

-- what a call replies, and the marks after it
pub record Shared (A : Type 0) : Type 0 where
  pub reply : A
  pub marks : List ℕ

-- The tests of a job, then 13 (for the marks too), 25 and 26: what is refused, and what goes on.
unfoldable pub tested : {A : Type 0} → List ℕ → Bool → Share → List ℕ → (Answer → A) → A → A
tested job enough s main refused went =
    let named = cond (caller_fits s) went (refused (answer 26 0)) in
    let fitting = cond (shares_fit_of s main) named (refused (answer 25 0)) in
    let lent = cond (enough && marks_fit s) fitting (refused (answer 13 0)) in
    cond (eqb (check_job job).number 0) lent (refused (check_job job))

-- What goes on is the plain call on the words available.
unfoldable pub shared_reply : {A : Type 0} → List ℕ → Bool → Share → Source → (Answer → A) → A → Answer → Shared A
shared_reply job enough s from refuse plain answered =
    record {
      reply = tested job enough s from.main refuse plain;
      marks = tested job enough s from.main (λ a. s.marks) (marks_for (job_of job) s from answered);
    }

-- a run
unfoldable pub shared_run_reply : List ℕ → Memory → Share → Shared RunReply
shared_run_reply job m s =
    let plain = run_reply job (with_source m (shared s m.source)) in
    shared_reply job (enough_words (job_of job).header m) s m.source (λ a. untouched a m) plain plain.answered

-- settling, whose 15 comes behind 14
unfoldable pub shared_settle_reply : List ℕ → Source → List ℕ → Share → Shared TextReply
shared_settle_reply job from out s =
    let plain = settle_reply job (shared s from) out in
    shared_reply job (leb (outcome_words_of (job_of job).header) (length from.noiseless)) s from (λ a. refused_text a out) plain plain.answered
