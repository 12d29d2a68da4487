-- A job that passed its tests. Laws. Assumes nothing.
use Rattle.std.specs.Prelude.{◌≡◌, refl, Bool, List, [], ◌++◌, ℕ, ◌≤◌, length, drop, eqb}
use Rattle.std.proofs.Common.{sym, ap, subst, ◌∙◌, append-nil}
use Rattle.std.proofs.Math.Bool.{true, false}
use borrow.Author.Tests.{eqb-true, eqb-false}
use Rattle.job.specs.declared.Header.{Header}
use Rattle.job.specs.declared.Answer.{Answer}
use Rattle.job.specs.Grammar.{header_with}
use Rattle.job.specs.Job.{answer, job_of, check_job}
use Rattle.job.specs.Sound.{InstructionsSound}
use Rattle.job.proofs.Theorems.{checked_sound}
use Rattle.instructions.specs.Ahead.{instructions_at, Ahead}
use Rattle.job_shape.specs.declared.Tested.{Tested}
use Rattle.job_shape.specs.Tested.{tested_answer, Tests}
use Rattle.job_shape.specs.Header.{behind_header_of}
use Rattle.rows.specs.Shape.{shape_of}
use Rattle.run.specs.Run.{Memory, frame_words_of, outcome_words_of, enough_words, untouched, run_reply}
use Rattle.needed_words.specs.declared.Answered.{Answered}
use Rattle.execution.specs.Steps.{header_of}
use Rattle.needed_words.specs.Needed.{NeededReady, NeededRun}
use Rattle.job_shape.specs.Laws.Tested.{passed_both}
use Rattle.job_shape.specs.Laws.Header.{header_started}
use Rattle.job_shape.specs.Enough.{enough_lent}
use Rattle.runner.specs.Ran.{RunReady, RanTo}
use Rattle.runner.specs.Laws.Replies.{run_refused, run_short, run_enough, needed_over, lengths_of, same_test}

-- the lines behind the header begin at `from`
pub record Passed (job : List ℕ) (h : Header) (from : ℕ) : Type 0 where
  pub passed : (check_job job).number ≡ 0
  pub header : (job_of job).header ≡ h
  pub ahead : Ahead job h 0 2 from
  pub instructions : instructions_at job 2 from ≡ (job_of job).instructions
  pub sound : InstructionsSound h 0 (instructions_at job 2 from)

module _ (job : List ℕ) (passes : (check_job job).number ≡ 0) where
  pub passed_at : {from : ℕ} → from ≡ behind_header_of job → Passed job (job_of job).header from
  passed_at found =
      let begun = header_started job passes in
      rw found
      (record {
        passed = passes;
        header = refl;
        ahead = begun.ahead;
        instructions = begun.instructions;
        sound = rw begun.instructions (checked_sound job passes).instructions;
      })

-- a job that passed its tests, and 13
pub tested_ready : {job : List ℕ} {x z d totals noiseless : List ℕ} {r : Tested}
    → Tests job (enough_lent (job_of job).header record { x = length x; z = length z; deltas = length d; totals = length totals; noiseless = length noiseless }) r
    → r.answer.number ≡ 0 → RunReady job r.shape x z d totals noiseless
tested_ready {job} t zero =
    let p = passed_both job _ (sym (ap (λ (a : Answer). a.number) t.answers) ∙ zero) in
    record { passes = p.0; shaped = t.shaped zero; enough = p.1 }

-- a job that is refused, by its tests or by 13
pub refused_reply : (job : List ℕ) (m : Memory) {r : Tested}
    → Tests job (enough_lent (job_of job).header (lengths_of m)) r
    → (r.answer.number ≡ 0 → ⊥) → run_reply job m ≡ untouched r.answer m
refused_reply job m {r} t ne = go (eqb (check_job job).number 0) refl (enough_words (job_of job).header m) refl
  where
    says : r.answer ≡ tested_answer job (enough_words (job_of job).header m)
    says = t.answers ∙ ap (tested_answer job) (same_test (job_of job).header m)

    go : (b : Bool) → eqb (check_job job).number 0 ≡ b → (l : Bool) → enough_words (job_of job).header m ≡ l → run_reply job m ≡ untouched r.answer m
    go false p l q =
        let is : r.answer ≡ check_job job = unfold tested_answer in (says ∙ rw p) in
        rw is (run_refused job m (eqb-false (check_job job).number 0 p))
    go true p false q =
        let is : r.answer ≡ answer 13 0 = unfold tested_answer in (says ∙ rw (p, q)) in
        rw is (run_short job m (eqb-true (check_job job).number 0 p) q)
    go true p true q =
        let is : r.answer ≡ check_job job = unfold tested_answer in (says ∙ rw (p, q)) in
        absurd (ne (ap (λ (a : Answer). a.number) is ∙ eqb-true (check_job job).number 0 p))

module _ {job : List ℕ} {h : Header} {from : ℕ} (p : Passed job h from) where
  -- the shape of its rows has the header
  shaped : h ≡ header_of job (shape_of h.qubits h.outcomes h.shots)
  shaped = ap (λ (g : Header). header_with g.edition h.qubits h.outcomes h.shots) (sym p.header)

  pub needed_ready : {x z d totals noiseless : List ℕ} → length x ≡ frame_words_of h → length z ≡ frame_words_of h → length d ≡ outcome_words_of h → length totals ≡ h.outcomes
      → outcome_words_of h ≤ length noiseless → NeededReady job (shape_of h.qubits h.outcomes h.shots) from x z d totals noiseless
  needed_ready lx lz ld lt ln =
      record {
        ahead = subst (λ (g : Header). Ahead job g 0 2 from) shaped p.ahead;
        sound = subst (λ (g : Header). InstructionsSound g 0 (instructions_at job 2 from)) shaped p.sound;
        words = refl;
        of_x = lx;
        of_z = lz;
        of_deltas = ld;
        of_totals = lt;
        of_noiseless = ln;
      }

  pub needed_reply : (m : Memory) {x z d totals : List ℕ} {r : Answered} → enough_words h m ≡ true
      → NeededRun job (header_of job (shape_of h.qubits h.outcomes h.shots)) m.source from x z d totals r
      → RanTo job m (x ++ drop (frame_words_of h) m.x) (z ++ drop (frame_words_of h) m.z) (d ++ drop (outcome_words_of h) m.deltas) (totals ++ drop h.outcomes m.totals) r
  needed_reply m {x} {z} {d} {totals} {r} enough runs =
      let run = subst (λ (g : Header). NeededRun job g m.source from x z d totals r) (sym shaped) runs in
      record {
        is = run_enough job m p.passed (rw p.header enough) ∙ rw (p.header, ← p.instructions) (needed_over h m _ ∙ rw run.is);
        within = run.within;
        leaves = rw (p.header, ← p.instructions) run.leaves;
      }

-- a main list in two parts of which the second is empty
pub ran_alone : (job : List ℕ) (m : Memory) {x z d totals : List ℕ} {r : Answered} (none : List ℕ) → none ≡ []
    → RanTo job
    (record {
      x = m.x;
      z = m.z;
      deltas = m.deltas;
      totals = m.totals;
      source = record { noiseless = m.source.noiseless; main = m.source.main ++ none; second = m.source.second; base = m.source.base };
    }) x z d totals r
    → run_reply job m ≡ record { answered = r.answer; x = x; z = z; deltas = d; totals = totals }
ran_alone job m none e ran = rw (e, append-nil m.source.main) at ran.is
