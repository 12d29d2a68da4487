-- Laws: calls whose jobs settle alike reply alike: on two main lists, and by a caller with two lists of marks. Assumes nothing.
use Rattle.std.specs.Prelude.{◌≡◌, Bool, true, false, cond, List, ℕ, ◌+◌, ◌<◌, min, eqb, leb, get_or}
use Rattle.std.proofs.Math.Path.{refl}
use Rattle.std.proofs.Common.{sym, ap, ◌∙◌, arith}
use borrow.Author.Tests.{eqb-true, le-leb, lt-ltb}
use Rattle.std.proofs.Math.ListN.{length}
use Rattle.job.specs.declared.Header.{Header}
use Rattle.job.specs.declared.Answer.{Answer}
use Rattle.job.specs.Job.{answer, job_of, check_job}
use Rattle.job.specs.Reply.{TextReply, refused_text}
use Rattle.draws.specs.Draws.{Lent}
use Rattle.draws.specs.Settle.{Settled, settle}
use Rattle.draws.specs.Execute.{Ended, starts, execute}
use Rattle.draws.specs.Known.{on_settled}
use Rattle.draws.proofs.Laws.Settling.{execute_settle}
use Rattle.run.specs.Run.{Source, Memory, RunReply, outcome_words_of, enough_words, lent_of, untouched, spent_reply, finished_reply, ended_reply, run_reply, with_source}
use Rattle.backward.specs.Settling.{settled_answer, settle_reply}
use Rattle.shares.specs.Shares.{own_left, available, marks_fit, shares_fit_of, moved, marks_after}
use Rattle.shares.specs.Replies.{tested, shared_reply, shared_run_reply, shared_settle_reply}
use Rattle.shares.specs.Account.{from, with_main, share_of, ran_by, settled_by, Call, Reply, caller_of, reply_to, StaysOwn, StaysWithin, Within}
use Rattle.shares.proofs.Laws.Sequences.{get_d_moved, get_D_other}

-- a job settles to the same from two main lists
abbrev pub SettlesAlike : List ℕ → Source → List ℕ → List ℕ → Type 0
SettlesAlike job s a b =
    settle (lent_of (job_of job).header s) (job_of job).instructions a ≡ settle (lent_of (job_of job).header s) (job_of job).instructions b

-- ---- the plain calls

-- A run's reply depends on the lent source only through what is executed.
ended_source : (h : Header) (m : Memory) (s : Source) (e : Ended) → ended_reply h (with_source m s) e ≡ ended_reply h m e
unfolding ended_reply spent_reply finished_reply
ended_source h m s (Ended.spent_at k) = refl
ended_source h m s (Ended.ended states) = refl

-- two replies after the same tests of a job and of the lent words
after_tests : {A : Type 0} (refuse : Answer → A) (job : List ℕ) (enough : Bool) (a b : A) → ((check_job job).number ≡ 0 → enough ≡ true → a ≡ b)
    → cond (eqb (check_job job).number 0) (cond enough a (refuse (answer 13 0))) (refuse (check_job job))
    ≡ cond (eqb (check_job job).number 0) (cond enough b (refuse (answer 13 0))) (refuse (check_job job))
after_tests {A} refuse job enough a b same = go (eqb (check_job job).number 0) refl enough refl
  where
    go : (p : Bool) → eqb (check_job job).number 0 ≡ p → (e : Bool) → enough ≡ e
        → cond p (cond e a (refuse (answer 13 0))) (refuse (check_job job)) ≡ cond p (cond e b (refuse (answer 13 0))) (refuse (check_job job))
    go true p true e = same (eqb-true _ 0 p) e
    go true p false e = refl
    go false p e' e = refl

pub run_alike : (job : List ℕ) (m : Memory) (a b : List ℕ)
    → ((check_job job).number ≡ 0 → enough_words (job_of job).header m ≡ true → SettlesAlike job m.source a b)
    → run_reply job (with_main a m) ≡ run_reply job (with_main b m)
unfolding run_reply enough_words
run_alike job m a b same = after_tests (λ (x : Answer). untouched x m) job (enough_words h m) _ _ ends
  where
    h : Header
    h = (job_of job).header

    lent : Lent
    lent = lent_of h m.source

    ended : List ℕ → Ended
    ended main = execute h lent (job_of job).instructions main starts

    ends : (check_job job).number ≡ 0 → enough_words h m ≡ true → ended_reply h (with_main a m) (ended a) ≡ ended_reply h (with_main b m) (ended b)
    ends p e =
        ended_source h m _ (ended a)
        ∙ ap (ended_reply h m) (execute_settle h lent _ _ starts ∙ ap (on_settled h starts) (same p e) ∙ sym (execute_settle h lent _ _ starts))
        ∙ sym (ended_source h m _ (ended b))

pub text_alike : (job : List ℕ) (s : Source) (out a b : List ℕ)
    → ((check_job job).number ≡ 0 → leb (outcome_words_of (job_of job).header) (length s.noiseless) ≡ true → SettlesAlike job s a b)
    → settle_reply job (from a s) out ≡ settle_reply job (from b s) out
unfolding settle_reply
text_alike job s out a b same =
    after_tests (λ (x : Answer). refused_text x out) job (leb (outcome_words_of (job_of job).header) (length s.noiseless)) _ _
    (λ p e. ap (λ (o : Settled). settled_answer (job_of job) o out) (same p e))

-- ---- a caller with two lists of marks

module _ (main shares : List ℕ) (c : ℕ) where
  -- the own mark after a job that takes words
  pub own_after : (m : List ℕ) → Within main shares m → c < length shares → (n : ℕ)
      → get_or (marks_after (share_of main shares c m) main n) c 0 ≡ get_or m c 0 + min n (length (own_left shares m c main))
  unfolding marks_after
  own_after m w below n =
      get_D_other (moved m c _) (length shares) c _ (λ (e : length shares ≡ c). omega (arith, e, below))
      ∙ get_d_moved m c _ (omega (arith, below, w.marked_all))

  module _ {marks other : List ℕ} (w : Within main shares marks) (v : Within main shares other) where
    -- the same tests are passed
    pub same_fit : shares_fit_of (share_of main shares c marks) main ≡ shares_fit_of (share_of main shares c other) main
    unfolding shares_fit_of
    same_fit = rw (w.each, v.each, le-leb _ _ w.common, le-leb _ _ v.common) refl

    pub same_marked : marks_fit (share_of main shares c marks) ≡ marks_fit (share_of main shares c other)
    same_marked = rw (lt-ltb _ _ w.marked_all, lt-ltb _ _ v.marked_all) refl

    -- A call whose plain replies are the same replies the same.
    same_reply : {A : Type 0} (job : List ℕ) (enough : Bool) (s : Source) (refuse : Answer → A) (plain also-plain : A) (answered : A → Answer)
        → plain ≡ also-plain
        → (shared_reply job enough (share_of main shares c marks) (from main s) refuse plain (answered plain)).reply
        ≡ (shared_reply job enough (share_of main shares c other) (from main s) refuse also-plain (answered also-plain)).reply
    unfolding shared_reply tested
    same_reply job enough s refuse plain also-plain answered e = rw (same_fit, same_marked, e) refl

    -- the job settles to the same from the words available
    abbrev pub SameSettled : List ℕ → Source → Type 0
    SameSettled job s = SettlesAlike job s (available (share_of main shares c marks) main) (available (share_of main shares c other) main)

    same_run : (job : List ℕ) (m : Memory) → ((check_job job).number ≡ 0 → enough_words (job_of job).header m ≡ true → SameSettled job m.source)
        → (ran_by main shares c job m marks).reply ≡ (ran_by main shares c job m other).reply
    unfolding shared_run_reply
    same_run job m same =
        same_reply job _ m.source (λ b. untouched b (with_main main m)) _ _ (λ (r : RunReply). r.answered) (run_alike job m _ _ same)

    pub same_text : (job : List ℕ) (s : Source) (out : List ℕ)
        → ((check_job job).number ≡ 0 → leb (outcome_words_of (job_of job).header) (length s.noiseless) ≡ true → SameSettled job s)
        → (settled_by main shares c job s out marks).reply ≡ (settled_by main shares c job s out other).reply
    unfolding shared_settle_reply
    same_text job s out same = same_reply job _ s (λ b. refused_text b out) _ _ (λ (r : TextReply). r.answered) (text_alike job s out _ _ same)

    -- A call that stays within the own stretch replies the same, if each job that stays within it settles to the same.
    pub same_call : ((job : List ℕ) (s : Source) → StaysWithin (lent_of (job_of job).header s) (job_of job).instructions (own_left shares marks c main)
        → SameSettled job s)
        → (k : Call) → caller_of k ≡ c → StaysOwn main shares k marks → reply_to main shares k marks ≡ reply_to main shares k other
    unfolding caller_of reply_to StaysOwn
    same_call same (Call.run d job m) e stay = rw e (ap Reply.ran (same_run job m (λ p l. same job m.source (rw e at (stay p l)))))
    same_call same (Call.settle d job s out) e stay = rw e (ap Reply.wrote (same_text job s out (λ p l. same job s (rw e at (stay p l)))))
