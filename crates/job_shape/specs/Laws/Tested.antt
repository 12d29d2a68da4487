-- The tests of a job, then 13. Laws. Assumes nothing.
use Rattle.std.proofs.Math.Path.{◌≡◌, sym}
use Rattle.std.specs.Prelude.{refl, Bool, true, false, cond, List, [], ℕ, ◌+◌, ◌-◌, ◌<◌, ◌^◌, eqb, length, take, drop}
use Rattle.std.proofs.Common.{ap, ◌∙◌, arith}
use borrow.Author.Tests.{eq-eqb, ne_eqb, eqb-true}
use Rattle.job.specs.declared.Answer.{Answer}
use Rattle.job.specs.Job.{answer, job_of, check_job}
use Rattle.job.specs.Sound.{HeaderSound}
use Rattle.job.proofs.Theorems.{checked_sound}
use Rattle.checker.specs.declared.Examined.{Examined}
use Rattle.checker.specs.Examines.{Examines}
use Rattle.rows.specs.declared.Shape.{Shape}
use Rattle.job_shape.specs.declared.Tested.{Tested}
use Rattle.job_shape.specs.Tested.{shape_for, tested_answer, Tests}

-- nothing lies behind a list: a main list in one part
pub nothing_behind : (ws : List ℕ) → take (length ws - length ws) (drop (length ws) ws) ≡ []
nothing_behind ws = let none : length ws - length ws ≡ 0 = omega arith in ap (λ (n : ℕ). take n (drop (length ws) ws)) none

-- where enough is lent, the answer is that of the tests
all_lent : (job : List ℕ) → check_job job ≡ tested_answer job true
unfolding tested_answer
all_lent job = go (eqb (check_job job).number 0)
  where
    go : (b : Bool) → check_job job ≡ cond b (check_job job) (check_job job)
    go true = refl
    go false = refl

-- a job that is refused, by whatever
refused_same : (job : List ℕ) (enough : Bool) → ((check_job job).number ≡ 0 → ⊥) → check_job job ≡ tested_answer job enough
unfolding tested_answer
refused_same job enough ne = rw (ne_eqb (check_job job).number 0 ne)

pub passed_both : (job : List ℕ) (enough : Bool) → (tested_answer job enough).number ≡ 0 → ((check_job job).number ≡ 0) × (enough ≡ true)
unfolding tested_answer
passed_both job enough e = go (eqb (check_job job).number 0) refl enough e
  where
    go : (b : Bool) → eqb (check_job job).number 0 ≡ b → (l : Bool) → (cond b (cond l (check_job job) (answer 13 0)) (check_job job)).number ≡ 0
        → ((check_job job).number ≡ 0) × (l ≡ true)
    go true p true q = (eqb-true (check_job job).number 0 p, refl)
    go true p false q = absurd (omega arith)
    go false p l q = let z : ◌≡◌ {A = Bool} true false = sym (eq-eqb (check_job job).number 0 q) ∙ p in absurd (let n : ◌≡◌ {A = ℕ} 0 1 = cc in omega arith)

module _ {job : List ℕ} {r : Examined} (x : Examines job r) where
  pub examined_refused : {shape : Shape} → (r.answer.number ≡ 0 → ⊥) → Tests job true (record { answer = r.answer; shape = shape })
  examined_refused ne = record { answers = x.answers ∙ all_lent job; shaped = λ zero. absurd (ne zero) }

  module _ (zero : r.answer.number ≡ 0) where
    passes : (check_job job).number ≡ 0
    passes = sym (ap (λ (a : Answer). a.number) x.answers) ∙ zero

    pub few_shots : r.header.shots + 63 < 2 ^ 64
    few_shots =
        let range : HeaderSound r.header = rw (x.finds passes).header (checked_sound job passes).header in
        omega (arith, range.few_shots)

    pub examined_passed : {shape : Shape} → shape ≡ shape_for r.header → Tests job true (record { answer = r.answer; shape = shape })
    examined_passed e = record { answers = x.answers ∙ all_lent job; shaped = λ z. e ∙ ap shape_for (x.finds passes).header }

-- then what is lent
module _ {job : List ℕ} {r : Tested} (t : Tests job true r) where
  checked : r.answer ≡ check_job job
  checked = t.answers ∙ sym (all_lent job)

  pub tests_refused : (enough : Bool) → (r.answer.number ≡ 0 → ⊥) → Tests job enough r
  tests_refused enough ne =
      record { answers = checked ∙ refused_same job enough (λ e. ne (ap (λ (a : Answer). a.number) checked ∙ e)); shaped = λ zero. absurd (ne zero) }

  module _ (zero : r.answer.number ≡ 0) where
    pub tests_passed : (check_job job).number ≡ 0
    tests_passed = sym (ap (λ (a : Answer). a.number) checked) ∙ zero

    pub tests_short : {a : Answer} {shape : Shape} → a ≡ answer 13 0 → (enough : Bool) → enough ≡ false → Tests job enough (record { answer = a; shape = shape })
    unfolding tested_answer
    tests_short is enough few =
        record {
          answers = rw (few, eq-eqb (check_job job).number 0 tests_passed) is;
          shaped = λ z. absurd (let no : ◌≡◌ {A = ℕ} 13 0 = sym (ap (λ (b : Answer). b.number) is) ∙ z in omega arith);
        }

    pub tests_enough : (enough : Bool) → enough ≡ true → Tests job enough r
    tests_enough enough all = rw all t
