-- Laws: what an answer of 0 says of a run, of settling and of what they are made of. Assumes nothing.
use Rattle.std.proofs.Math.Path.{◌≡◌, refl, ap}
use Rattle.std.proofs.Common.{sym, subst, ◌∙◌, arith, eqb-true, eq-eqb, ne_eqb, leb-true, le-leb}
use Rattle.std.specs.Prelude.{Bool, true, false, ℕ, ◌≤◌, eqb, leb, drop}
use mathlib.Core.List.{List}
use Rattle.std.proofs.Math.ListN.{length}
use Rattle.std.proofs.Math.Seq.{take-append_seam}
use Rattle.std.proofs.lemmas.Bool.{eqb-false}
use Rattle.text.proofs.Laws.Values.{both}
use Rattle.job.specs.Job.{answer, Job, job_of, check_job}
use Rattle.job.specs.Reply.{written_by, TextReply, refused_text, text_fits_of, written_text}
use Rattle.draws.specs.Settle.{SettledLine, Settled, settled_text}
use Rattle.draws.specs.Execute.{States, starts, Ended, execute}
use Rattle.run.specs.Run.{Source, Memory, RunReply, outcome_words_of, enough_words, lent_of, untouched, spent_reply, finished_reply, ended_reply, run_reply}
use Rattle.backward.specs.Calls.{settling_of}
use Rattle.backward.specs.Settling.{settled_answer, settle_reply}

-- ---- a run

-- how a job ends with this memory
abbrev pub end_of : List ℕ → Memory → Ended
end_of job m = execute (job_of job).header (lent_of (job_of job).header m.source) (job_of job).instructions m.source.main starts

-- a job that was run to its end
pub record RunsTo (job : List ℕ) (m : Memory) : Type 0 where
  pub passes : (check_job job).number ≡ 0
  pub enough : enough_words (job_of job).header m ≡ true
  pub states : States
  pub ends : end_of job m ≡ Ended.ended states
  pub reply : run_reply job m ≡ finished_reply (job_of job).header m states

pub run_reply_lem : (job : List ℕ) (m : Memory) → (check_job job).number ≡ 0 → enough_words (job_of job).header m ≡ true
    → run_reply job m ≡ ended_reply (job_of job).header m (end_of job m)
unfolding run_reply
run_reply_lem job m passes enough = rw (eq-eqb _ _ passes, enough)

-- what the answer of a run that is no 13 comes of: of the tests, or of the end of the job
pub data Ran (job : List ℕ) (m : Memory) : Type 0 where
  refused : ((check_job job).number ≡ 0 → ⊥) → run_reply job m ≡ untouched (check_job job) m → Ran job m
  short : run_reply job m ≡ untouched (answer 13 0) m → Ran job m
  ran : (check_job job).number ≡ 0 → enough_words (job_of job).header m ≡ true → Ran job m

pub run_cases : (job : List ℕ) (m : Memory) → Ran job m
unfolding run_reply
run_cases job m = go (eqb (check_job job).number 0) refl (enough_words (job_of job).header m) refl
  where
    go : (a : Bool) → eqb (check_job job).number 0 ≡ a → (b : Bool) → enough_words (job_of job).header m ≡ b → Ran job m
    go true p true q = Ran.ran (eqb-true _ 0 p) q
    go true p false q = Ran.short (rw (p, q))
    go false p b q = Ran.refused (eqb-false _ 0 p) (rw p)

pub run_ends : (job : List ℕ) (m : Memory) → (run_reply job m).answered.number ≡ 0 → RunsTo job m
run_ends job m z = by (run_cases job m)
  where
    ending : (passes : (check_job job).number ≡ 0) (enough : enough_words (job_of job).header m ≡ true) (o : Ended) → end_of job m ≡ o
        → (ended_reply (job_of job).header m o).answered.number ≡ 0 → RunsTo job m
    ending passes enough (Ended.spent_at k) e z = unfold ended_reply spent_reply in absurd (omega arith)
    ending passes enough (Ended.ended states) e z =
        record {
          passes = passes;
          enough = enough;
          states = states;
          ends = e;
          reply = run_reply_lem job m passes enough ∙ ap (ended_reply (job_of job).header m) e ∙ (unfold ended_reply in refl);
        }

    by : Ran job m → RunsTo job m
    by (Ran.refused no-pass e) = absurd (no-pass (sym (ap (λ (r : RunReply). r.answered.number) e) ∙ z))
    by (Ran.short e) = let thirteen : ◌≡◌ {A = ℕ} 0 13 = sym z ∙ ap (λ (r : RunReply). r.answered.number) e in absurd (omega arith)
    by (Ran.ran passes enough) =
        ending passes enough (end_of job m) refl (sym (ap (λ (r : RunReply). r.answered.number) (run_reply_lem job m passes enough)) ∙ z)

-- ---- settling

pub settle_reply_lem : (job : List ℕ) (s : Source) (out : List ℕ) → (check_job job).number ≡ 0 → outcome_words_of (job_of job).header ≤ length s.noiseless
    → settle_reply job s out ≡ settled_answer (job_of job) (settling_of job s) out
unfolding settle_reply
settle_reply_lem job s out passes enough = rw (eq-eqb _ _ passes, le-leb _ _ enough)

pub settle_refused : (job : List ℕ) (s : Source) (out : List ℕ) → ((check_job job).number ≡ 0 → ⊥) → settle_reply job s out ≡ refused_text (check_job job) out
unfolding settle_reply
settle_refused job s out no-pass = rw (ne_eqb _ _ no-pass)

-- the bytes that were written are the text
written_by_lem : (text out : List ℕ) (r : TextReply) → r ≡ written_text text out → written_by r ≡ text
written_by_lem text out r e = ap written_by e ∙ take-append_seam text (drop (length text) out)

-- a job that settling wrote, as these lines
pub record WritesTo (job : List ℕ) (s : Source) (out : List ℕ) (ls : List SettledLine) : Type 0 where
  pub passes : (check_job job).number ≡ 0
  pub enough : outcome_words_of (job_of job).header ≤ length s.noiseless
  pub settles : settling_of job s ≡ Settled.settled ls
  pub few : length (settled_text (job_of job).text ls) ≤ 1048576
  pub text : written_by (settle_reply job s out) ≡ settled_text (job_of job).text ls
  pub reply : settle_reply job s out ≡ written_text (settled_text (job_of job).text ls) out

-- what settling's answer comes of
pub data SettlingCase (job : List ℕ) (s : Source) (out : List ℕ) : Type 0 where
  refused : ((check_job job).number ≡ 0 → ⊥) → settle_reply job s out ≡ refused_text (check_job job) out → SettlingCase job s out
  short : settle_reply job s out ≡ refused_text (answer 13 0) out → SettlingCase job s out
  settles : (check_job job).number ≡ 0 → outcome_words_of (job_of job).header ≤ length s.noiseless → SettlingCase job s out

pub settling_cases : (job : List ℕ) (s : Source) (out : List ℕ) → SettlingCase job s out
unfolding settle_reply
settling_cases job s out = go (eqb (check_job job).number 0) refl (leb (outcome_words_of (job_of job).header) (length s.noiseless)) refl
  where
    go : (a : Bool) → eqb (check_job job).number 0 ≡ a → (b : Bool) → leb (outcome_words_of (job_of job).header) (length s.noiseless) ≡ b → SettlingCase job s out
    go true p true q = SettlingCase.settles (eqb-true _ 0 p) (leb-true _ _ q)
    go true p false q = SettlingCase.short (rw (p, q))
    go false p b q = SettlingCase.refused (eqb-false _ 0 p) (settle_refused job s out (eqb-false _ 0 p))

-- the answer to lines that are settled: they are written, or 15
pub settled_fits : (j : Job) (ls : List SettledLine) (out : List ℕ) → length (settled_text j.text ls) ≤ length out → length (settled_text j.text ls) ≤ 1048576
    → settled_answer j (Settled.settled ls) out ≡ written_text (settled_text j.text ls) out
unfolding settled_answer
settled_fits j ls out a b = rw (le-leb _ _ a, le-leb _ _ b)

module _ (job : List ℕ) (s : Source) (out : List ℕ) where
  number : TextReply → ℕ
  number r = r.answered.number

  writing : (check_job job).number ≡ 0 → outcome_words_of (job_of job).header ≤ length s.noiseless → (ls : List SettledLine) → settling_of job s ≡ Settled.settled ls
      → (b : Bool) → text_fits_of (settled_text (job_of job).text ls) out ≡ b → (settled_answer (job_of job) (Settled.settled ls) out).answered.number ≡ 0
      → WritesTo job s out ls
  writing passes enough ls e true f z =
      let text = settled_text (job_of job).text ls in
      let parts = both (leb (length text) (length out)) (leb (length text) 1048576) f in
      let reply : settle_reply job s out ≡ written_text text out =
      settle_reply_lem job s out passes enough
      ∙ ap (λ (o : Settled). settled_answer (job_of job) o out) e
      ∙ settled_fits (job_of job) ls out (leb-true _ _ parts.0) (leb-true _ _ parts.1) in
      record { passes = passes; enough = enough; settles = e; few = leb-true _ _ parts.1; text = written_by_lem text out _ reply; reply = reply }
  writing passes enough ls e false f z = unfold settled_answer in (let fifteen : ◌≡◌ {A = ℕ} 15 0 = rw f at z in absurd (omega arith))

  -- an answer of 0 is that of a job that settled, and of a text that fits
  pub settle_writes : (settle_reply job s out).answered.number ≡ 0 → (ls : List SettledLine) × WritesTo job s out ls
  unfolding number
  settle_writes z = by (settling_cases job s out)
    where
      ending : (check_job job).number ≡ 0 → outcome_words_of (job_of job).header ≤ length s.noiseless → (o : Settled) → settling_of job s ≡ o
          → (settled_answer (job_of job) o out).answered.number ≡ 0 → (ls : List SettledLine) × WritesTo job s out ls
      ending passes enough (Settled.spent_at k) e z = unfold settled_answer in absurd (omega arith)
      ending passes enough (Settled.settled ls) e z = (ls, writing passes enough ls e _ refl z)

      by : SettlingCase job s out → (ls : List SettledLine) × WritesTo job s out ls
      by (SettlingCase.refused no-pass e) = absurd (no-pass (sym (ap number e) ∙ z))
      by (SettlingCase.short e) = let thirteen : ◌≡◌ {A = ℕ} 0 13 = sym z ∙ ap number e in absurd (omega arith)
      by (SettlingCase.settles passes enough) = ending passes enough (settling_of job s) refl (sym (ap number (settle_reply_lem job s out passes enough)) ∙ z)

  -- and the lines are those to which the job settles
  pub writes_these : (settle_reply job s out).answered.number ≡ 0 → (ls : List SettledLine) → settling_of job s ≡ Settled.settled ls → WritesTo job s out ls
  writes_these z ls e =
      let w = settle_writes z in
      subst (WritesTo job s out) (same_lines w.0 ls (sym w.1.settles ∙ e)) w.1
    where
      same_lines : (ks ls : List SettledLine) → Settled.settled ks ≡ Settled.settled ls → ks ≡ ls
      same_lines ks ls e = cc
