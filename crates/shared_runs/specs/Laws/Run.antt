-- Laws: the reply of a run by a caller with a share. Assumes nothing.
use Rattle.std.specs.Prelude.{◌≡◌, refl, List, ℕ, length}
use Rattle.std.proofs.Math.Path.{sym}
use Rattle.std.proofs.Common.{ap, ◌∙◌}
use Rattle.job.specs.declared.Answer.{Answer}
use Rattle.job.specs.Job.{job_of}
use Rattle.run.specs.Run.{Memory, enough_words, untouched, with_source}
use Rattle.needed_words.specs.declared.Answered.{Answered}
use Rattle.job_shape.specs.declared.Tested.{Tested}
use Rattle.job_shape.specs.Tested.{Tests}
use Rattle.job_shape.specs.Laws.Tested.{passed_both}
use Rattle.job_shape.specs.Enough.{enough_lent}
use Rattle.runner.specs.Ran.{RanTo}
use Rattle.runner.specs.Laws.Replies.{lengths_of, same_test}
use Rattle.shares.specs.Shares.{Share, own_left, common_left}
use Rattle.shares.specs.Replies.{shared, shared_run_reply}
use Rattle.shares.proofs.Laws.Spent.{run_takes}
use Rattle.shared_runs.specs.Refusal.{first_refusal_of}
use Rattle.shared_runs.specs.Laws.Tests.{job_passes}
use Rattle.shared_runs.specs.Laws.Replies.{in_parts, marked_by, all_available, all_marked, refused_reply, went_reply}

module _ (job : List ℕ) (m : Memory) (s : Share) {t : Tested}
    (lent : Tests job (enough_lent (job_of job).header (lengths_of m)) t)
    {a : Answer} (first : a ≡ first_refusal_of t.answer s m.source.main) where
  tests : Tests job (enough_words (job_of job).header m) t
  tests = rw (← same_test (job_of job).header m) lent

  pub run_refused : (a.number ≡ 0 → ⊥) → shared_run_reply job m s ≡ record { reply = untouched a m; marks = s.marks }
  unfolding shared_run_reply
  run_refused ne = refused_reply tests s m.source first (λ b. untouched b m) _ _ ne

  pub run_went : a.number ≡ 0 → {words more : List ℕ} → words ≡ own_left s.shares s.marks s.caller m.source.main
      → more ≡ common_left s.shares s.marks m.source.main
      → {x z d totals : List ℕ} {r : Answered} → RanTo job (with_source m (in_parts m.source words more)) x z d totals r
      → {marks : List ℕ} → marks ≡ marked_by s (length words) r.taken
      → shared_run_reply job m s ≡ record { reply = record { answered = r.answer; x = x; z = z; deltas = d; totals = totals }; marks = marks }
  unfolding shared_run_reply enough_words
  run_went zero own common ran moves =
      let answered = sym (ap (λ (b : Answer). b.number) tests.answers) ∙ job_passes tests s m.source.main first zero in
      let passed = passed_both job (enough_words (job_of job).header m) answered in
      let takes = run_takes job (with_source m (shared s m.source)) passed.0 passed.1 in
      let whole = rw (all_available s m.source.main own common) at ran in
      rw (all_marked s m.source.main own _ moves)
      (went_reply tests s m.source first (λ b. untouched b m) _ _ zero _ whole.within (rw takes whole.leaves) ∙ rw whole.is refl)
