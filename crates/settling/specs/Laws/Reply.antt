-- The whole reply of settling, and where it leaves the main list. Laws. Assumes nothing.
use Rattle.std.proofs.Math.Path.{◌≡◌, sym, ap}
use Rattle.std.specs.Prelude.{refl, Result, Ok, Err, Bool, true, false, ◌&&◌, ◌||◌, ℕ, ◌+◌, ◌*◌, ◌/◌, ◌≤◌, ◌<◌, eqb, leb, take}
use Rattle.std.proofs.Common.{◌∙◌, mul-le-mul, drop_of_length-le}
use mathlib.Core.List.{List, [], ◌++◌, append-nil}
use native.Mathlib.Omega.{arith}
use borrow.Author.Tests.{leb-true, eq-eqb, eqb-true, le-leb, lt-leb}
use Rattle.std.proofs.Math.ListN.{length, drop}
use Rattle.std.proofs.Math.Seq.{length-take-le}
use Rattle.job.specs.declared.Answer.{Answer}
use Rattle.job.specs.Job.{max_bytes, answer, job_of, check_job}
use Rattle.job.proofs.Theorems.{checked_sound}
use Rattle.job_shape.specs.declared.Tested.{Tested}
use Rattle.job_shape.specs.Tested.{tested_answer, Tests}
use Rattle.job_shape.specs.Laws.Tested.{passed_both, tests_passed, tests_short, tests_enough}
use Rattle.writer.specs.declared.TextAnswer.{TextAnswer}
use Rattle.writer.specs.Reply.{text_reply}
use Rattle.writer.specs.Laws.Placing.{placed_over}
use Rattle.writer.specs.Laws.Fits.{room_for}
use Rattle.draws.specs.Draws.{Lent}
use Rattle.draws.specs.Left.{left_after}
use Rattle.draws.specs.Settle.{Settled, settle, settled_text}
use Rattle.rows.specs.declared.Shape.{Shape}
use Rattle.rows.specs.Words.{words_per_row, bit_in}
use Rattle.run.specs.Run.{Source, outcome_words_of, lent_of}
use Rattle.backward.specs.Settling.{settled_answer, settle_reply}
use Rattle.settling.specs.declared.Answered.{Answered}
use Rattle.settling.specs.declared.Length.{Length}
use Rattle.settling.specs.declared.SpentAt.{SpentAt}
use Rattle.settling.specs.Pass.{Pass, pass_of, lent_by}
use Rattle.settling.specs.Whole.{settled_by, left_by_all, Fits, taken_for, PutAll, SettledPut, SettledTo}

-- ---- refused before any draw

-- whether the noiseless bits suffice
abbrev enough_for : List ℕ → ℕ → Bool
enough_for job noiseless = leb (outcome_words_of (job_of job).header) noiseless

-- by the tests or by 13
pub refused_reply : (job : List ℕ) (s : Source) (out : List ℕ) {t : Tested} {r : TextAnswer} → Tests job (enough_for job (length s.noiseless)) t
    → (t.answer.number ≡ 0 → ⊥) → r ≡ record { answer = t.answer; figure = 0 } → text_reply r out ≡ settle_reply job s out
unfolding tested_answer settle_reply
refused_reply job s out {t} {r} tests ne says = go (eqb (check_job job).number 0) refl (enough_for job (length s.noiseless)) refl
  where
    go : (b : Bool) → eqb (check_job job).number 0 ≡ b → (l : Bool) → enough_for job (length s.noiseless) ≡ l → text_reply r out ≡ settle_reply job s out
    go false p l q =
        let is : t.answer ≡ check_job job = tests.answers ∙ rw p in
        rw (says, is, p)
    go true p false q =
        let is : t.answer ≡ answer 13 0 = tests.answers ∙ rw (p, q) in
        rw (says, is, p, q)
    go true p true q =
        let is : t.answer ≡ check_job job = tests.answers ∙ rw (p, q) in
        absurd (ne (ap (λ (a : Answer). a.number) is ∙ eqb-true (check_job job).number 0 p))

-- ---- settled

abbrev source_of : Pass → Source
source_of p = record { noiseless = p.noiseless; main = p.main; second = p.second; base = p.base }

module _ {p : Pass} (f : Fits p) where
  lent_same : lent_by p ≡ lent_of (job_of p.job).header (source_of p)
  lent_same =
      let words : p.shape.width ≡ words_per_row (job_of p.job).header.shots = f.words_are ∙ ap words_per_row (sym f.shots_are) in
      λ i. record { noiseless = bit_in (words i) p.noiseless; second = p.second; base = p.base; shots = sym f.shots_are i }

  enough : outcome_words_of (job_of p.job).header ≤ length p.noiseless
  enough =
      let words : words_per_row (job_of p.job).header.shots ≡ p.shape.width = sym (f.words_are ∙ ap words_per_row (sym f.shots_are)) in
      rw words f.rows

  reply_is : (out : List ℕ) → settle_reply p.job (source_of p) out ≡ settled_answer (job_of p.job) (settled_by p) out
  unfolding settle_reply
  reply_is out =
      rw (eq-eqb (check_job p.job).number 0 f.passes, le-leb (outcome_words_of (job_of p.job).header) (length p.noiseless) enough)
      (ap (λ (l : Lent). settled_answer (job_of p.job) (settle l (job_of p.job).instructions p.main) out) (sym lent_same))

  left_is : left_by_all p ≡ left_after (lent_of (job_of p.job).header (source_of p)) (job_of p.job).instructions p.main
  left_is = ap (λ (l : Lent). left_after l (job_of p.job).instructions p.main) lent_same

  module _ {start after : List ℕ} {t : Result Length SpentAt} (put : SettledPut p start after t) (out : List ℕ) where
    -- the words that were taken stay taken
    left_at : {r : TextAnswer} {taken : ℕ} {text : List ℕ} → taken_for t ≡ taken → eqb r.answer.number 0 || eqb r.answer.number 14 ≡ true
        → text_reply r text ≡ settle_reply p.job (source_of p) out → SettledTo p.job (source_of p) out text (record { answer = r; taken = taken })
    left_at same takes is =
        record { is = is; within = rw same at put.within; leaves = rw takes (rw same at put.leaves ∙ left_is) }

    pub spent_reply : {r : TextAnswer} {s : SpentAt} → t ≡ Err s → r ≡ record { answer = record { number = 14; line = s.line }; figure = 0 }
        → SettledTo p.job (source_of p) out out (record { answer = r; taken = s.taken })
    unfolding PutAll taken_for settled_answer
    spent_reply {r} {s} e says = left_at (ap taken_for e) (rw says) (go (settled_by p) put.put ∙ sym (reply_is out))
      where
        go : (o : Settled) → PutAll p start o after t → text_reply r out ≡ settled_answer (job_of p.job) o out
        go (Settled.spent_at j) u = let same : j ≡ s.line = cc (u, e) in rw (says, same)
        go (Settled.settled ls) u = let z : ◌≡◌ {A = ℕ} 0 1 = cc (u.is, e) in absurd (omega arith)

    module _ {l : Length} (e : t ≡ Ok l) where
      pub long_reply : {r : TextAnswer} → r ≡ record { answer = record { number = 15; line = 0 }; figure = l.bytes } → leb l.bytes (length out) && leb l.bytes max_bytes ≡ false
          → SettledTo p.job (source_of p) out out (record { answer = r; taken = 0 })
      unfolding PutAll settled_answer
      long_reply {r} says long = record { is = go (settled_by p) put.put ∙ sym (reply_is out); within = omega arith; leaves = rw says }
        where
          go : (o : Settled) → PutAll p start o after t → text_reply r out ≡ settled_answer (job_of p.job) o out
          go (Settled.spent_at j) u = let z : ◌≡◌ {A = ℕ} 0 1 = cc (u, e) in absurd (omega arith)
          go (Settled.settled ls) u =
              let measured : u.long ≡ l.bytes = cc (u.is, e) in
              let same : length (settled_text (job_of p.job).text ls) ≡ l.bytes = omega (arith, u.puts.place) in
              rw (says, same, long)

      -- the second pass writes what the first has measured
      pub done_reply : {r : TextAnswer} {text : List ℕ} {s : Result Length SpentAt} → SettledPut p (take l.bytes out) text s
          → r ≡ record { answer = record { number = 0; line = 0 }; figure = l.bytes } → leb l.bytes (length out) && leb l.bytes max_bytes ≡ true
          → SettledTo p.job (source_of p) out (text ++ drop l.bytes out) (record { answer = r; taken = l.taken })
      unfolding PutAll taken_for settled_answer
      done_reply {r} {text} {s} again says fits = left_at (ap taken_for e) (rw says) (go (settled_by p) put.put again.put ∙ sym (reply_is out))
        where
          go : (o : Settled) → PutAll p start o after t → PutAll p (take l.bytes out) o text s → text_reply r (text ++ drop l.bytes out) ≡ settled_answer (job_of p.job) o out
          go (Settled.spent_at j) u v = let z : ◌≡◌ {A = ℕ} 0 1 = cc (u, e) in absurd (omega arith)
          go (Settled.settled ls) u v =
              let whole = settled_text (job_of p.job).text ls in
              let measured : u.long ≡ l.bytes = cc (u.is, e) in
              let same : length whole ≡ l.bytes = omega (arith, u.puts.place) in
              let size : length (take l.bytes out) ≡ l.bytes = length-take-le l.bytes out (room_for l.bytes (length out) fits) in
              let part : length whole ≤ length (take l.bytes out) = omega arith in
              let none : length (take l.bytes out) ≤ length whole = omega arith in
              let written : text ≡ whole =
              v.puts.bytes ∙ placed_over whole (take l.bytes out) part ∙ ap (λ (m : List ℕ). whole ++ m) (drop_of_length-le (take l.bytes out) none) ∙ append-nil whole in
              rw (says, same, written, fits)

-- a main list in two parts of which the second is empty
pub settled_alone : (job : List ℕ) (s : Source) (out after none : List ℕ) {r : Answered} → none ≡ []
    → SettledTo job (record { noiseless = s.noiseless; main = s.main ++ none; second = s.second; base = s.base }) out after r
    → text_reply r.answer after ≡ settle_reply job s out
settled_alone job s out after none e settled = rw (e, append-nil s.main) at settled.is

-- ---- what the tests leave

module _ {job : List ℕ} {r : Tested} (t : Tests job true r) (zero : r.answer.number ≡ 0) where
  pub few_words : r.shape.outcomes * r.shape.width ≤ 65536
  few_words =
      let h = (checked_sound job (tests_passed t zero)).header in
      let w : ((job_of job).header.shots + 63) / 64 ≤ 64 = omega (arith, h.few_shots) in
      rw (t.shaped zero) (mul-le-mul h.few_outcomes w)

  pub missing_words : (noiseless : ℕ) {a : Answer} {shape : Shape} → a ≡ answer 13 0 → noiseless < r.shape.outcomes * r.shape.width
      → Tests job (enough_for job noiseless) (record { answer = a; shape = shape })
  missing_words noiseless is few = tests_short t zero is _ (lt-leb _ noiseless (rw (t.shaped zero) at few))

  pub enough_words : (noiseless : ℕ) → r.shape.outcomes * r.shape.width ≤ noiseless → Tests job (enough_for job noiseless) r
  enough_words noiseless rows = tests_enough t zero _ (le-leb _ noiseless (rw (t.shaped zero) at rows))

pub tested_fits : {job noiseless main second : List ℕ} {base : ℕ} {r : Tested} → Tests job (enough_for job (length noiseless)) r → r.answer.number ≡ 0
    → Fits (pass_of job r.shape noiseless main second base)
tested_fits {job} {noiseless} t zero =
    let p = passed_both job _ (sym (ap (λ (a : Answer). a.number) t.answers) ∙ zero) in
    rw (t.shaped zero)
    (record { passes = p.0; shots_are = refl; words_are = refl; rows = leb-true _ (length noiseless) p.1 })
