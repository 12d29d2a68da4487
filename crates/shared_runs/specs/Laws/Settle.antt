-- Laws: the reply of settling by a caller with a share. Assumes nothing.
use Rattle.std.specs.Prelude.{◌≡◌, List, ℕ, leb, length}
use Rattle.job.specs.declared.Answer.{Answer}
use Rattle.job.specs.Job.{job_of}
use Rattle.job.specs.Reply.{refused_text}
use Rattle.run.specs.Run.{Source, outcome_words_of}
use Rattle.writer.specs.declared.TextAnswer.{TextAnswer}
use Rattle.writer.specs.Reply.{text_reply}
use Rattle.job_shape.specs.declared.Tested.{Tested}
use Rattle.job_shape.specs.Tested.{Tests}
use Rattle.settling.specs.declared.Answered.{Answered}
use Rattle.settling.specs.Whole.{SettledTo}
use Rattle.shares.specs.Shares.{Share, own_left, common_left}
use Rattle.shares.specs.Replies.{takes_words, shared_settle_reply}
use Rattle.shared_runs.specs.Refusal.{first_refusal_of}
use Rattle.shared_runs.specs.Laws.Replies.{in_parts, marked_by, all_available, all_marked, refused_reply, went_reply}

module _ (job : List ℕ) (from : Source) (out : List ℕ) (s : Share) {t : Tested}
    (tests : Tests job (leb (outcome_words_of (job_of job).header) (length from.noiseless)) t)
    {a : Answer} (first : a ≡ first_refusal_of t.answer s from.main) where
  pub settle_refused : (a.number ≡ 0 → ⊥) → {r : TextAnswer} → r ≡ record { answer = a; figure = 0 }
      → shared_settle_reply job from out s ≡ record { reply = text_reply r out; marks = s.marks }
  unfolding shared_settle_reply
  settle_refused ne says = rw says (refused_reply tests s from first (λ b. refused_text b out) _ _ ne)

  pub settle_went : a.number ≡ 0 → {words more : List ℕ} → words ≡ own_left s.shares s.marks s.caller from.main
      → more ≡ common_left s.shares s.marks from.main → {after : List ℕ} {r : Answered} → SettledTo job (in_parts from words more) out after r
      → {marks : List ℕ} → marks ≡ marked_by s (length words) r.taken
      → shared_settle_reply job from out s ≡ record { reply = text_reply r.answer after; marks = marks }
  unfolding shared_settle_reply takes_words
  settle_went zero own common settled moves =
      let whole = rw (all_available s from.main own common) at settled in
      rw (all_marked s from.main own _ moves, ← whole.is)
      (went_reply tests s from first (λ b. refused_text b out) _ _ zero _ whole.within whole.leaves)
