-- The tests of the call, and its reply. Laws. Assumes nothing.
use Prim.Native.Nat.{ℕ, ◌≤◌, ◌<◌}
use Rattle.std.proofs.Common.{arith, sym, ◌∙◌, eq-eqb, ne_eqb, lt-ltb, le-ltb}
use Rattle.std.specs.Prelude.{◌≡◌, true, false, ◌&&◌, List, ltb, length, Option as CodeOption, Some, None}
use Rattle.std.proofs.Math.Path.{ap}
use Rattle.pauli.specs.Bits.{Bits, members}
use Rattle.pauli.specs.Fixed.{AllBelow}
use Rattle.pauli.proofs.Laws.F2.{&&_false}
use Rattle.text.specs.Bytes.{lines}
use Rattle.text.specs.List.{is_rising_of}
use Rattle.job.specs.declared.Answer.{Answer}
use Rattle.job.specs.Checks.{all_below}
use Rattle.job.specs.Job.{answer, accepted, job_of, recorded_in, check_job}
use Rattle.job.specs.Reply.{refused_count}
use Rattle.job.specs.Sound.{JobSound}
use Rattle.job.proofs.Theorems.{checked_sound}
use Rattle.job.proofs.Laws.Lists.{below_at}
use Rattle.checker.specs.declared.Examined.{Examined}
use Rattle.checker.specs.Examines.{Finds, Examines}
use Rattle.frames.specs.Forward.{setting_of}
use Rattle.backward.specs.Walk.{walk}
use Rattle.backward.specs.Walking.{first_noise, plain_lines, walkable, walk_answer, walk_reply}
use Rattle.lines_back.specs.declared.Walk.{Walk as WalkWords}
use Rattle.walker.specs.Steps.{line_or_none, WalkedBack}

-- ---- the reply

module _ (job : List ℕ) (shot : ℕ) (set : List ℕ) where
  pub reply_refused : ((check_job job).number ≡ 0 → ⊥) → refused_count (check_job job) ≡ walk_reply job shot set
  unfolding walk_reply
  reply_refused h = rw (ne_eqb (check_job job).number 0 h)

  module _ (passes : (check_job job).number ≡ 0) where
    unfit : walkable (job_of job) shot set ≡ false → refused_count (answer 17 0) ≡ walk_reply job shot set
    unfolding walk_reply
    unfit e = rw (eq-eqb (check_job job).number 0 passes, e)

    fit : walkable (job_of job) shot set ≡ true → walk_answer (job_of job) shot set (first_noise (job_of job).instructions) ≡ walk_reply job shot set
    unfolding walk_reply
    fit e = rw (eq-eqb (check_job job).number 0 passes, e)

    -- 17
    pub reply_shot : (job_of job).header.shots ≤ shot → refused_count (answer 17 0) ≡ walk_reply job shot set
    unfolding walkable
    reply_shot h = unfit (rw (le-ltb shot (job_of job).header.shots h))

    pub reply_rising : is_rising_of set ≡ false → refused_count (answer 17 0) ≡ walk_reply job shot set
    unfolding walkable
    reply_rising e = unfit (rw e (rw (&&_false (ltb shot (job_of job).header.shots))))

    pub reply_recorded : all_below (recorded_in (job_of job).instructions) set ≡ false → refused_count (answer 17 0) ≡ walk_reply job shot set
    unfolding walkable
    reply_recorded e = unfit (rw e (&&_false (ltb shot (job_of job).header.shots && is_rising_of set)))

    module _ (within : shot < (job_of job).header.shots) (rises : is_rising_of set ≡ true) (recorded : all_below (recorded_in (job_of job).instructions) set ≡ true) where
      can : walkable (job_of job) shot set ≡ true
      unfolding walkable
      can = rw (lt-ltb shot (job_of job).header.shots within, rises, recorded)

      -- 16
      pub reply_noise : (o : CodeOption ℕ) (k : ℕ) → o ≡ Some k → line_or_none o ≡ first_noise (job_of job).instructions → refused_count (answer 16 k) ≡ walk_reply job shot set
      unfolding walk_answer line_or_none
      reply_noise o k s e = ap (walk_answer (job_of job) shot set) (rw s at e) ∙ fit can

      pub reply_count : (o : CodeOption ℕ) (n : ℕ) → o ≡ None → line_or_none o ≡ first_noise (job_of job).instructions
          → n ≡ (walk (setting_of (job_of job).header shot) (plain_lines (job_of job).instructions) (members set)).count
          → record { answered = accepted; count = n } ≡ walk_reply job shot set
      unfolding walk_answer line_or_none
      reply_count o n z e c =
          ap (λ (m : ℕ). record { answered = accepted; count = m }) c
          ∙ ap (walk_answer (job_of job) shot set) (rw z at e)
          ∙ fit can

  -- recorded ids are below 1,024
  pub outcomes_below : (check_job job).number ≡ 0 → all_below (recorded_in (job_of job).instructions) set ≡ true → AllBelow 1024 set
  outcomes_below passes recorded =
      let s : JobSound job (job_of job) = checked_sound job passes in
      record { below = λ i h. omega (arith, below_at _ set recorded i h, s.recorded, s.header.few_outcomes) }

-- ---- by what an examination found

module _ {job : List ℕ} {r : Examined} (x : Examines job r) (shot : ℕ) (set : List ℕ) where
  pub examined_refused : (r.answer.number ≡ 0 → ⊥) → record { answered = r.answer; count = 0 } ≡ walk_reply job shot set
  examined_refused h =
      ap (λ (a : Answer). record { answered = a; count = 0 }) x.answers
      ∙ reply_refused job shot set (λ z. h (ap (λ (a : Answer). a.number) x.answers ∙ z))

  module _ (ok : r.answer.number ≡ 0) where
    pub passes : (check_job job).number ≡ 0
    passes = sym (ap (λ (a : Answer). a.number) x.answers) ∙ ok

    found : Finds job r
    found = x.finds passes

    pub examined_lines : r.lines ≡ length (lines job)
    examined_lines = found.lines_in

    pub examined_shot : r.header.shots ≤ shot → refused_count (answer 17 0) ≡ walk_reply job shot set
    examined_shot h = reply_shot job shot set passes (rw (← found.header) h)

    pub examined_rising : is_rising_of set ≡ false → refused_count (answer 17 0) ≡ walk_reply job shot set
    examined_rising e = reply_rising job shot set passes e

    pub examined_recorded : all_below r.recorded set ≡ false → refused_count (answer 17 0) ≡ walk_reply job shot set
    examined_recorded e = reply_recorded job shot set passes (rw (← found.recorded) e)

    pub examined_below : all_below r.recorded set ≡ true → AllBelow 1024 set
    examined_below e = outcomes_below job shot set passes (rw (← found.recorded) e)

    module _ (within : shot < r.header.shots) (rises : is_rising_of set ≡ true) (recorded : all_below r.recorded set ≡ true) {S : Bits} {w : WalkWords}
        (is : S ≡ members set) (walked : WalkedBack job shot S w) where
      pub examined_noise : (k : ℕ) → w.noise ≡ Some k → refused_count (answer 16 k) ≡ walk_reply job shot set
      examined_noise k e = reply_noise job shot set passes (rw (← found.header) within) rises (rw (← found.recorded) recorded) w.noise k e walked.noise

      pub examined_count : w.noise ≡ None → record { answered = accepted; count = w.count } ≡ walk_reply job shot set
      examined_count z =
          reply_count job shot set passes (rw (← found.header) within) rises (rw (← found.recorded) recorded) w.noise w.count z walked.noise
          (walked.count ∙ ap (λ (T : Bits). (walk (setting_of (job_of job).header shot) (plain_lines (job_of job).instructions) T).count) is)
