-- A job checked line by line. Laws. Assumes nothing.
use Rattle.std.specs.Prelude.{ℕ, suc, ◌+◌, ◌≤◌, ◌≡◌, Bool, true, false, cond, List, ◌∷◌, length, drop}
use Rattle.std.proofs.Math.Numerals.{add-one}
use Rattle.std.proofs.Common.{arith, zero-add, sym, ap, ◌∙◌, drop_of_length-le}
use borrow.Author.Tests.{eq-eqb, ne_eqb}
use Rattle.text.specs.Bytes.{pieces, lines}
use Rattle.job.specs.declared.Answer.{Answer}
use Rattle.job.specs.Grammar.{Written, read_line_of}
use Rattle.job.specs.Checks.{Context, no_context_of, records, next, refusal_of}
use Rattle.job.specs.Job.{answer, accepted, well_ended_of, is_last, next_of, check_lines_of, check_job}
use Rattle.job.proofs.Theorems.{recorded_counted, header_known}
use Rattle.job.specs.Contexts.{context_after}
use Rattle.checker.specs.declared.Examined.{Examined}
use Rattle.checker.specs.Examines.{Examines}
use Rattle.check_values.specs.declared.context.Context.{Context as Known}
use Rattle.check_values.specs.Contexts.{context_of}

-- ---- one line of those that are left

module _ (k : ℕ) (c : Context) (l : List ℕ) (ls : List (List ℕ)) (number : ℕ) (e : number ≡ refusal_of c (is_last ls) (read_line_of l)) where
  pub line_refused : (number ≡ 0 → ⊥) → check_lines_of k c (l ∷ ls) ≡ answer number k
  unfolding check_lines_of
  line_refused h = rw (← e, ne_eqb number 0 h)

  pub line_passed : number ≡ 0 → check_lines_of k c (l ∷ ls) ≡ check_lines_of (k + 1) (next_of c (read_line_of l)) ls
  unfolding check_lines_of
  line_passed h = rw (← e, eq-eqb number 0 h, add-one k)

pub no_line : (k : ℕ) (c : Context) (job : List ℕ) (at : ℕ) → length job ≤ at → check_lines_of k c (lines (drop at job)) ≡ accepted
unfolding check_lines_of pieces
no_line k c job at h = rw (drop_of_length-le job h)

-- ---- the code's loop

-- k lines were read, the lines from `at` on are left, and the struct says what the lines before them say
pub record Left (job : List ℕ) (c : Known) (at k : ℕ) : Type 0 where
  pub within : at ≤ length job
  pub number : k ≤ at
  pub ended : well_ended_of job ≡ true
  pub recorded : c.recorded ≤ at
  pub same : check_lines_of 1 no_context_of (lines job) ≡ check_lines_of (k + 1) (context_of c) (lines (drop at job))
  pub after : context_after no_context_of (lines job) ≡ context_after (context_of c) (lines (drop at job))
  pub count : length (lines job) ≡ k + length (lines (drop at job))

pub all_left : {job : List ℕ} {c : Known} → well_ended_of job ≡ true → context_of c ≡ no_context_of → Left job c 0 0
unfolding context_of no_context_of
all_left {job} ended e =
    let z = ap (λ (x : Context). x.recorded) e in
    record {
      within = omega arith;
      number = omega arith;
      ended = ended;
      recorded = omega arith;
      same = rw e;
      after = rw e;
      count = sym (zero-add (length (lines job)));
    }

-- a line records at most one outcome
most : (x : Context) (w : Written) → (next x w).recorded ≤ x.recorded + 1
unfolding next
most x (Written.header h) = omega arith
most x (Written.line l) = by (records l)
  where
    by : (b : Bool) → cond b (suc x.recorded) x.recorded ≤ x.recorded + 1
    by true = omega arith
    by false = omega arith
most x (Written.noise n) = omega arith
most x (Written.element v P) = omega arith

pub one_more : (c d : Known) (w : Written) → context_of d ≡ next (context_of c) w → d.recorded ≤ c.recorded + 1
unfolding context_of
one_more c d w e = let r = ap (λ (x : Context). x.recorded) e in omega (arith, r, most (context_of c) w)

-- a refused job
pub bad_job : {job : List ℕ} {r : Examined} {number k : ℕ} → r.answer ≡ answer number k → answer number k ≡ check_job job → (number ≡ 0 → ⊥) → Examines job r
bad_job said is bad = record { answers = said ∙ is; finds = λ e. absurd (bad (ap (λ (a : Answer). a.number) is ∙ e)) }

pub badly_ended : {job : List ℕ} {r : Examined} → r.answer ≡ answer 1 0 → well_ended_of job ≡ false → Examines job r
unfolding check_job
badly_ended said e = bad_job said (rw e) (λ z. omega arith)

-- no line is left
pub all_passed : {job : List ℕ} {c : Known} {at k : ℕ} → Left job c at k → length job ≤ at
    → Examines job (record { answer = answer 0 0; header = c.header; recorded = c.recorded; lines = k })
unfolding check_job context_of context_after pieces
all_passed {job} {c} {at} {k} left h =
    let nothing = drop_of_length-le job h in
    let is : answer 0 0 ≡ check_job job = rw left.ended (sym (left.same ∙ no_line (k + 1) (context_of c) job at h)) in
    let known : context_after no_context_of (lines job) ≡ context_of c = left.after ∙ ap (λ (l : List ℕ). context_after (context_of c) (lines l)) nothing in
    record {
      answers = is;
      finds =
          λ e.
          record {
            header = ap (λ (x : Context). x.header) (sym known) ∙ header_known job e;
            recorded = ap (λ (x : Context). x.recorded) (sym known) ∙ recorded_counted job e;
            lines_in = omega (arith, left.count, ap (λ (l : List ℕ). length (lines l)) nothing);
          };
    }
