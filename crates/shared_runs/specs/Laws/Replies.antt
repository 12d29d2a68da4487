-- Laws: the reply of a call by a caller with a share, whichever call it is. Assumes nothing.
use Rattle.std.specs.Prelude.{◌≡◌, Bool, cond, ℕ, ◌+◌, ◌-◌, ◌^◌, ◌≤◌, ◌<◌, min, length, get_or, drop}
use Rattle.std.proofs.Math.Path.{sym, ap₂}
use Rattle.std.proofs.Common.{◌∙◌}
use mathlib.Core.List.{List, ◌++◌}
use Rattle.job.specs.declared.Answer.{Answer}
use Rattle.job.specs.Job.{job_of}
use Rattle.draws.specs.Left.{left_after}
use Rattle.run.specs.Run.{Source, lent_of}
use Rattle.job_shape.specs.declared.Tested.{Tested}
use Rattle.job_shape.specs.Tested.{Tests}
use Rattle.shares.specs.Shares.{Share, own_left, common_left, available, moved, marks_after}
use Rattle.shares.specs.Replies.{takes_words, shared_reply}
use Rattle.share_marks.specs.Fit.{Fit}
use Rattle.share_marks.proofs.Laws.Calls.{words_available, marks_room, marks_after_lem, marks_for_lem}
use Rattle.shared_runs.specs.Refusal.{first_refusal_of}
use Rattle.shared_runs.specs.Laws.Tests.{refused_by, goes_on}

-- ---- the words available in two parts

-- what draws are taken from, with a main list in two parts
abbrev pub in_parts : Source → List ℕ → List ℕ → Source
in_parts from words more = record { noiseless = from.noiseless; main = words ++ more; second = from.second; base = from.base }

-- the marks, where of so many words of the own stretch and the common part behind them so many are taken
abbrev pub marked_by : Share → ℕ → ℕ → List ℕ
marked_by s own taken = moved (moved s.marks s.caller (min taken own)) (length s.shares) (taken - min taken own)

module _ (s : Share) (main : List ℕ) {words : List ℕ} (own : words ≡ own_left s.shares s.marks s.caller main) where
  pub all_available : {more : List ℕ} → more ≡ common_left s.shares s.marks main → words ++ more ≡ available s main
  all_available common = ap₂ ◌++◌ own common ∙ words_available s main

  pub all_marked : (taken : ℕ) {marks : List ℕ} → marks ≡ marked_by s (length words) taken → marks ≡ marks_after s main taken
  all_marked taken moves = moves ∙ rw own (marks_after_lem s main taken)

  -- no mark passes 2^64
  pub marks_fit : {more : List ℕ} → more ≡ common_left s.shares s.marks main → Fit s.shares s.marks main × (s.caller < length s.shares)
      → length main < 2 ^ 64 → {taken : ℕ} → taken ≤ length (words ++ more)
      → (s.caller < length s.shares) × (length s.shares < length s.marks)
      × (get_or s.marks s.caller 0 + length words < 2 ^ 64)
      × (get_or s.marks (length s.shares) 0 + (taken - length words) < 2 ^ 64)
  marks_fit common (fit, below) short within = rw own (marks_room s main fit below short _ (rw (own, common) at within))

-- ---- the reply

module _ {job : List ℕ} {enough : Bool} {t : Tested} (tests : Tests job enough t) (s : Share) (from : Source) {a : Answer}
    (first : a ≡ first_refusal_of t.answer s from.main) {A : Type 0} (refuse : Answer → A) (plain : A) (answered : Answer) where
  -- a refusal that comes before the call
  pub refused_reply : (a.number ≡ 0 → ⊥) → shared_reply job enough s from refuse plain answered ≡ record { reply = refuse a; marks = s.marks }
  unfolding shared_reply
  refused_reply ne =
      ap₂ (λ (r : A) (l : List ℕ). record { reply = r; marks = l }) (refused_by tests s from.main first ne refuse plain)
      (refused_by tests s from.main first ne (λ b. s.marks) _)

  -- the call, which has taken so many of the words available
  pub went_reply : a.number ≡ 0 → (taken : ℕ) → taken ≤ length (available s from.main)
      → drop taken (available s from.main)
      ≡ cond (takes_words answered) (left_after (lent_of (job_of job).header from) (job_of job).instructions (available s from.main))
      (available s from.main)
      → shared_reply job enough s from refuse plain answered ≡ record { reply = plain; marks = marks_after s from.main taken }
  unfolding shared_reply
  went_reply zero taken within leaves =
      ap₂ (λ (r : A) (l : List ℕ). record { reply = r; marks = l }) (goes_on tests s from.main first zero refuse plain)
      (goes_on tests s from.main first zero (λ b. s.marks) _ ∙ sym (marks_for_lem (job_of job) s from answered taken within leaves))
