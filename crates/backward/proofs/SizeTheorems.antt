-- Theorems about settling's byte figure: with 15 it is the size of the settled text, exactly. Assumes nothing.
use Rattle.std.proofs.Math.Path.{◌≡◌, refl, sym, ap}
use Rattle.std.proofs.Common.{◌∙◌, true≢false, arith}
use Rattle.std.specs.Prelude.{Bool, List, ℕ, ◌≤◌}
use Rattle.std.proofs.Math.Bool.{true, false}
use Rattle.std.proofs.Math.ListN.{length}
use Rattle.job.specs.Job.{answer, accepted, max_bytes, job_of, check_job}
use Rattle.job.specs.Reply.{TextReply, of_call, refused_text, text_fits_of}
use Rattle.job.proofs.Laws.Numbers.{check_of_job}
use Rattle.draws.specs.Settle.{SettledLine, Settled, settled_text}
use Rattle.run.specs.Run.{Source, outcome_words_of}
use Rattle.backward.specs.Settling.{settled_answer, settle_reply}
use Rattle.backward.specs.Calls.{settling_of}
use Rattle.backward.proofs.Laws.Replies.{SettlingCase, settling_cases, settle_reply_lem, settled_fits}

-- where the settled text does not fit: 15 with its size, and no byte is changed
abbrev pub no_space : List ℕ → List ℕ → TextReply
no_space text out = record { answered = answer 15 0; figure = length text; out = out }

-- what settling found where it answered 15
record Measured (job : List ℕ) (s : Source) (out : List ℕ) : Type 0 where
  lines : List SettledLine
  passes : (check_job job).number ≡ 0
  enough : outcome_words_of (job_of job).header ≤ length s.noiseless
  settles : settling_of job s ≡ Settled.settled lines
  reply : settle_reply job s out ≡ no_space (settled_text (job_of job).text lines) out

module _ (job : List ℕ) (s : Source) where
  reply_of : (out : List ℕ) → (check_job job).number ≡ 0 → outcome_words_of (job_of job).header ≤ length s.noiseless → (o : Settled) → settling_of job s ≡ o
      → settle_reply job s out ≡ settled_answer (job_of job) o out
  reply_of out passes enough o e = settle_reply_lem job s out passes enough ∙ ap (λ (p : Settled). settled_answer (job_of job) p out) e

  fifteen : (out : List ℕ) → (settle_reply job s out).answered.number ≡ 15 → Measured job s out
  fifteen out z = by (settling_cases job s out)
    where
      sized : (check_job job).number ≡ 0 → outcome_words_of (job_of job).header ≤ length s.noiseless → (ls : List SettledLine) → settling_of job s ≡ Settled.settled ls
          → (b : Bool) → text_fits_of (settled_text (job_of job).text ls) out ≡ b → Measured job s out
      sized passes enough ls e true f = unfold settled_answer in
          (let no : ◌≡◌ {A = ℕ} 15 0 = sym z ∙ ap (λ (r : TextReply). r.answered.number) (rw f at (reply_of out passes enough (Settled.settled ls) e)) in absurd (omega arith))
      sized passes enough ls e false f = unfold settled_answer in
          record { lines = ls; passes = passes; enough = enough; settles = e; reply = rw f at (reply_of out passes enough (Settled.settled ls) e) }

      ending : (check_job job).number ≡ 0 → outcome_words_of (job_of job).header ≤ length s.noiseless → (o : Settled) → settling_of job s ≡ o → Measured job s out
      ending passes enough (Settled.spent_at k) e = unfold settled_answer in
          (let no : ◌≡◌ {A = ℕ} 15 14 = sym z ∙ ap (λ (r : TextReply). r.answered.number) (reply_of out passes enough (Settled.spent_at k) e) in absurd (omega arith))
      ending passes enough (Settled.settled ls) e = sized passes enough ls e _ refl

      by : SettlingCase job s out → Measured job s out
      by (SettlingCase.refused no-pass e) =
          let own : true ≡ false = ap of_call (sym z ∙ ap (λ (r : TextReply). r.answered.number) e) ∙ check_of_job job in absurd (true≢false own)
      by (SettlingCase.short e) = let no : ◌≡◌ {A = ℕ} 15 13 = sym z ∙ ap (λ (r : TextReply). r.answered.number) e in absurd (omega arith)
      by (SettlingCase.settles passes enough) = ending passes enough (settling_of job s) refl

  -- the figure of a job that settles, whether its text fits or not
  sized_by : (out : List ℕ) (ls : List SettledLine) → settle_reply job s out ≡ settled_answer (job_of job) (Settled.settled ls) out
      → (settle_reply job s out).figure ≡ length (settled_text (job_of job).text ls)
  unfolding settled_answer
  sized_by out ls e = go (text_fits_of (settled_text (job_of job).text ls) out) refl
    where
      go : (b : Bool) → text_fits_of (settled_text (job_of job).text ls) out ≡ b → (settle_reply job s out).figure ≡ length (settled_text (job_of job).text ls)
      go true f = ap (λ (r : TextReply). r.figure) (rw f at e)
      go false f = ap (λ (r : TextReply). r.figure) (rw f at e)

  -- ---- what 15 says

  -- Settling answered 15 with these lent bytes.
  module _ (out : List ℕ) (short : (settle_reply job s out).answered.number ≡ 15) where
    -- The job settles, and the figure is the size of its settled text, however long that is. No byte is changed.
    pub figure_exact : (ls : List SettledLine)
        × (settling_of job s ≡ Settled.settled ls)
        × (settle_reply job s out ≡ no_space (settled_text (job_of job).text ls) out)
    figure_exact = let m = fifteen out short in (m.lines, m.settles, m.reply)

    -- The figure is fixed by the text alone: whatever bytes are lent instead, it is the same.
    pub figure_alone : (other : List ℕ) → (settle_reply job s other).figure ≡ (settle_reply job s out).figure
    figure_alone other =
        let m = fifteen out short in
        sized_by other m.lines (reply_of other m.passes m.enough _ m.settles) ∙ sym (ap (λ (r : TextReply). r.figure) m.reply)

    -- So a buffer of that size succeeds, and one that is larger, whenever the text is within the limit, and the figure is the one that was given (what is
    -- written then: writes-settled).
    pub figure_enough : (other : List ℕ) → (settle_reply job s out).figure ≤ max_bytes → (settle_reply job s out).figure ≤ length other
        → ((settle_reply job s other).answered ≡ accepted) × ((settle_reply job s other).figure ≡ (settle_reply job s out).figure)
    figure_enough other within lent =
        let m = fifteen out short in
        let size = ap (λ (r : TextReply). r.figure) m.reply in
        (ap (λ (r : TextReply). r.answered) (reply_of other m.passes m.enough _ m.settles ∙ settled_fits (job_of job) m.lines other (omega (arith, size)) (omega (arith, size))), figure_alone other)

  -- ---- 14 before 15

  -- Draws that are spent at any line, the last one too, are 14 with a figure of 0, whatever bytes are lent.
  pub spent_first : (out : List ℕ) (k : ℕ) → (check_job job).number ≡ 0 → outcome_words_of (job_of job).header ≤ length s.noiseless → settling_of job s ≡ Settled.spent_at k
      → settle_reply job s out ≡ refused_text (answer 14 k) out
  unfolding settled_answer
  spent_first out k passes enough e = reply_of out passes enough (Settled.spent_at k) e
