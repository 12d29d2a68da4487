-- Laws: runs with a share that answer 0 or 14, settling that answers 14 or 15. Assumes nothing.
use Rattle.std.proofs.Math.Path.{◌≡◌, refl, ap}
use Rattle.std.proofs.Common.{sym, ◌∙◌, true≢false, arith, eq-eqb, ne_eqb}
use Rattle.std.specs.Prelude.{Bool, true, false, cond, List, ℕ, ◌≤◌, eqb, leb, length}
use Rattle.job.specs.declared.Header.{Header}
use Rattle.job.specs.declared.Answer.{Answer}
use Rattle.job.specs.Job.{answer, job_of, check_job}
use Rattle.job.specs.Reply.{TextReply, of_call, refused_text, text_fits_of, written_text}
use Rattle.job.proofs.Laws.Numbers.{check_of_job}
use Rattle.draws.specs.Draws.{Lent}
use Rattle.draws.specs.Settle.{Settled, settle, settled_text}
use Rattle.draws.specs.Execute.{Ended, starts, execute}
use Rattle.draws.specs.Known.{on_settled}
use Rattle.draws.proofs.Laws.Settling.{execute_settle}
use Rattle.run.specs.Run.{Source, Memory, RunReply, outcome_words_of, enough_words, lent_of, untouched, spent_reply, finished_reply, ended_reply, run_reply}
use Rattle.backward.specs.Calls.{settling_of}
use Rattle.backward.specs.Settling.{settled_answer, settle_reply}
use Rattle.backward.proofs.Laws.Replies.{settle_reply_lem}
use Rattle.shares.specs.Shares.{Share}
use Rattle.shares.specs.Replies.{takes_words, shared_run_reply, shared_settle_reply}
use Rattle.shares.specs.Account.{Passes}
use Rattle.shares.proofs.Laws.Moves.{passed_by, passed}

-- a run that passes the tests and has the words answers 0 or 14
pub run_takes : (job : List ℕ) (m : Memory) → (check_job job).number ≡ 0 → enough_words (job_of job).header m ≡ true → takes_words (run_reply job m).answered ≡ true
unfolding run_reply takes_words
run_takes job m p e = rw (eq-eqb _ _ p, e) (go (execute _ _ _ _ _))
  where
    go : (o : Ended) → takes_words (ended_reply (job_of job).header m o).answered ≡ true
    go (Ended.spent_at k) = unfold ended_reply spent_reply in refl
    go (Ended.ended states) = unfold ended_reply finished_reply in refl

pub run_passed : (job : List ℕ) (m : Memory) (s : Share) → takes_words (shared_run_reply job m s).reply.answered ≡ true
    → Passes job (enough_words (job_of job).header m) s m.source.main
unfolding shared_run_reply
run_passed job m s t = passed (λ (r : RunReply). r.answered) (λ a. untouched a m) (λ a. refl) job _ s m.source _ t

-- A run that answers 14 settles to no list.
pub run_settles : (job : List ℕ) (m : Memory) → (check_job job).number ≡ 0 → enough_words (job_of job).header m ≡ true
    → (k : ℕ) → (run_reply job m).answered ≡ answer 14 k
    → settle (lent_of (job_of job).header m.source) (job_of job).instructions m.source.main ≡ Settled.spent_at k
unfolding run_reply
run_settles job m tests enough k e =
    go (settle lent (job_of job).instructions m.source.main) refl
    (ap (λ (o : Ended). (ended_reply h m o).answered) (sym (execute_settle h lent (job_of job).instructions m.source.main starts)) ∙ ran)
  where
    h : Header
    h = (job_of job).header

    lent : Lent
    lent = lent_of h m.source

    ran : (ended_reply h m (execute h lent (job_of job).instructions m.source.main starts)).answered ≡ answer 14 k
    ran = rw (eq-eqb _ _ tests, enough) at e

    go : (o : Settled) → settle lent (job_of job).instructions m.source.main ≡ o → (ended_reply h m (on_settled h starts o)).answered ≡ answer 14 k
        → settle lent (job_of job).instructions m.source.main ≡ Settled.spent_at k
    go (Settled.spent_at i) f a = unfold on_settled ended_reply spent_reply in f ∙ ap Settled.spent_at (ap (λ (b : Answer). b.line) a)
    go (Settled.settled ls) f a = absurd (finished a)
      where
        finished : (ended_reply h m (on_settled h starts (Settled.settled ls))).answered ≡ answer 14 k → ⊥
        finished a = unfold on_settled ended_reply finished_reply in let no : ◌≡◌ {A = ℕ} 0 14 = ap (λ (b : Answer). b.number) a in omega (arith, no)

-- ---- settling

-- Settling that answers 0 or 14 has passed every test, and so has settling that answers 15.
pub settling_passed : (job : List ℕ) (from : Source) (out : List ℕ) (s : Share) → takes_words (shared_settle_reply job from out s).reply.answered ≡ true
    → Passes job (leb (outcome_words_of (job_of job).header) (length from.noiseless)) s from.main
unfolding shared_settle_reply
settling_passed job from out s t = passed (λ (r : TextReply). r.answered) (λ a. refused_text a out) (λ a. refl) job _ s from _ t

pub short_passed : (job : List ℕ) (from : Source) (out : List ℕ) (s : Share) → (shared_settle_reply job from out s).reply.answered.number ≡ 15
    → Passes job (leb (outcome_words_of (job_of job).header) (length from.noiseless)) s from.main
unfolding shared_settle_reply
short_passed job from out s e =
    passed_by (λ (r : TextReply). r.answered) (λ a. refused_text a out) (λ a. refl) job _ s from _
    (λ (a : Answer). eqb a.number 15) refl refl refl (λ refused. ne_eqb _ 15 not_short) (eq-eqb _ 15 e)
  where
    not_short : (check_job job).number ≡ 15 → ⊥
    not_short e = let clash : true ≡ false = ap of_call (sym e) ∙ check_of_job job in absurd (true≢false clash)

-- Settling that answers 14 settles to no list.
pub settling_settles : (job : List ℕ) (from : Source) (out : List ℕ) → (check_job job).number ≡ 0 → outcome_words_of (job_of job).header ≤ length from.noiseless
    → (k : ℕ) → (settle_reply job from out).answered ≡ answer 14 k → settling_of job from ≡ Settled.spent_at k
settling_settles job from out tests enough k e =
    go (settling_of job from) refl (ap (λ (r : TextReply). r.answered) (sym (settle_reply_lem job from out tests enough)) ∙ e)
  where
    fits : (text : List ℕ) (b : Bool) → (cond b (written_text text out) (record { answered = answer 15 0; figure = length text; out = out })).answered.number ≡ 14 → ⊥
    fits text true e = let zero : ◌≡◌ {A = ℕ} 0 14 = e in omega (arith, zero)
    fits text false e = let short : ◌≡◌ {A = ℕ} 15 14 = e in omega (arith, short)

    go : (o : Settled) → settling_of job from ≡ o → (settled_answer (job_of job) o out).answered ≡ answer 14 k → settling_of job from ≡ Settled.spent_at k
    go (Settled.spent_at i) f a = unfold settled_answer in f ∙ ap Settled.spent_at (ap (λ (b : Answer). b.line) a)
    go (Settled.settled ls) f a = unfold settled_answer in absurd (fits (settled_text (job_of job).text ls) (text_fits_of (settled_text (job_of job).text ls) out) (ap (λ (b : Answer). b.number) a))
