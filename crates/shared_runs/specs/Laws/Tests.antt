-- Laws: the tests of a job and of what is lent to it, then those of a share. Assumes nothing.
use Rattle.std.specs.Prelude.{◌≡◌, Bool, ◌&&◌, List, ℕ, ◌<◌, length}
use Rattle.std.proofs.Math.Path.{refl, ap}
use Rattle.std.proofs.Common.{sym, ◌∙◌, eq-eqb, ne_eqb, eqb-true}
use Rattle.std.proofs.Math.Bool.{true, false, cond}
use Rattle.std.proofs.lemmas.Bool.{eqb-false}
use Rattle.std.proofs.Math.Dec.{eqb}
use Rattle.job.specs.declared.Answer.{Answer}
use Rattle.job.specs.Job.{answer, check_job}
use Rattle.job_shape.specs.declared.Tested.{Tested}
use Rattle.job_shape.specs.Tested.{tested_answer, Tests}
use Rattle.shares.specs.Shares.{Share, marks_fit, shares_fit_of, caller_fits}
use Rattle.shares.specs.Replies.{tested}
use Rattle.share_marks.specs.Fit.{Fit, share_number_of}
use Rattle.share_marks.proofs.Laws.Calls.{fit_of}
use Rattle.shared_runs.specs.Refusal.{first_refusal_of}

-- The answer of both, and the call goes on where it is 0.
module _ {job : List ℕ} {enough : Bool} {t : Tested} (tests : Tests job enough t) (s : Share) (main : List ℕ) {a : Answer}
    (first : a ≡ first_refusal_of t.answer s main) where
  decided : {A : Type 0} (refuse : Answer → A) (went : A) → tested job enough s main refuse went ≡ cond (eqb a.number 0) went (refuse a)
  unfolding tested tested_answer share_number_of first_refusal_of
  decided {A} refuse went =
      go (eqb (check_job job).number 0) refl enough (marks_fit s) (shares_fit_of s main) (caller_fits s)
      ∙ ap (λ (b : Answer). cond (eqb b.number 0) went (refuse b)) (sym (first ∙ ap (λ (b : Answer). first_refusal_of b s main) tests.answers))
    where
      go : (p : Bool) → eqb (check_job job).number 0 ≡ p → (l m f c : Bool)
          → cond p (cond (l && m) (cond f (cond c went (refuse (answer 26 0))) (refuse (answer 25 0))) (refuse (answer 13 0))) (refuse (check_job job))
          ≡ (let lent : Answer = cond p (cond l (check_job job) (answer 13 0)) (check_job job) in
          let b : Answer = cond (eqb lent.number 0) (answer (cond m (cond f (cond c 0 26) 25) 13) 0) lent in
          cond (eqb b.number 0) went (refuse b))
      go false p l m f c = rw (p, p) refl
      go true p false m f c = refl
      go true p true false f c = rw p refl
      go true p true true false c = rw p refl
      go true p true true true false = rw p refl
      go true p true true true true = rw p refl

  pub refused_by : (a.number ≡ 0 → ⊥) → {A : Type 0} (refuse : Answer → A) (went : A) → tested job enough s main refuse went ≡ refuse a
  refused_by ne refuse went = decided refuse went ∙ rw (ne_eqb a.number 0 ne)

  module _ (zero : a.number ≡ 0) where
    pub goes_on : {A : Type 0} (refuse : Answer → A) (went : A) → tested job enough s main refuse went ≡ went
    goes_on refuse went = decided refuse went ∙ rw (eq-eqb a.number 0 zero)

    both_zero : (t.answer.number ≡ 0) × (share_number_of s main ≡ 0)
    unfolding first_refusal_of
    both_zero = go (eqb t.answer.number 0) refl (ap (λ (b : Answer). b.number) (sym first) ∙ zero)
      where
        go : (p : Bool) → eqb t.answer.number 0 ≡ p → (cond p (answer (share_number_of s main) 0) t.answer).number ≡ 0
            → (t.answer.number ≡ 0) × (share_number_of s main ≡ 0)
        go true p e = (eqb-true _ 0 p, e)
        go false p e = absurd (eqb-false _ 0 p e)

    pub job_passes : t.answer.number ≡ 0
    job_passes = both_zero.0

    pub share_passes : Fit s.shares s.marks main × (s.caller < length s.shares)
    share_passes = fit_of s main both_zero.1
