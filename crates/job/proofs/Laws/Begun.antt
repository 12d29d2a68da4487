-- An accepted job from its bytes to its lines: the header, and accepted lines behind it. Laws. Assumes nothing.
use Rattle.std.specs.Prelude.{ℕ, ◌≤◌, ◌<◌, ◌≡◌, refl, Bool, true, false, cond, ◌&&◌, List, [], ◌∷◌, eqb, ltb, leb, length}
use Rattle.std.proofs.Common.{arith, sym, true≢false, leb-true, ltb-true}
use Rattle.std.proofs.Math.Option.{some}
use Rattle.std.proofs.lemmas.Bool.{not-false}
use Rattle.text.specs.Bytes.{LF, extend, pieces, lines}
use Rattle.text.proofs.Laws.Values.{both}
use Rattle.job.specs.declared.Header.{Header}
use Rattle.job.specs.Grammar.{Written, read_line_of}
use Rattle.job.specs.Checks.{no_context_of, in_range, known_edition, next, header_fits_of, own_tests}
use Rattle.job.specs.Job.{answer, accepted, is_last, next_of, well_ended_of, check_lines_of, check_job, gathered, header_of, job_of_lines, job_of}
use Rattle.job.specs.Contexts.{between, Accepted}
use Rattle.job.proofs.Laws.Forms.{line_fits}
use Rattle.job.proofs.Laws.Accepted.{passes_first, zero_passes, good_says, Passing, passing}

-- the parts of test 1
pub ended_parts : (job : List ℕ) → well_ended_of job ≡ true → (0 < length job) × (length job ≤ 1048576)
unfolding well_ended_of
ended_parts job e =
    let a = both (ltb 0 (length job) && leb (length job) 1048576) _ e in
    let b = both (ltb 0 (length job)) (leb (length job) 1048576) a.0 in
    (ltb-true _ _ b.0, leb-true _ _ b.1)

-- a job of number 0 passes test 1, and all of its lines are accepted
pub job_passes : (job : List ℕ) → (check_job job).number ≡ 0 → (well_ended_of job ≡ true) × (check_lines_of 1 no_context_of (lines job) ≡ accepted)
unfolding check_job
job_passes job e = go (well_ended_of job) refl e
  where
    go : (b : Bool) → well_ended_of job ≡ b → (cond b (check_lines_of 1 no_context_of (lines job)) (answer 1 0)).number ≡ 0
        → (well_ended_of job ≡ true) × (check_lines_of 1 no_context_of (lines job) ≡ accepted)
    go true q e = (q, zero_passes 1 no_context_of (lines job) e)
    go false q e = absurd (omega arith)

-- some bytes have a first line
first_line : (job : List ℕ) → 0 < length job → (l : List ℕ) × (ls : List (List ℕ)) × (lines job ≡ l ∷ ls)
unfolding pieces extend
first_line [] h = absurd (omega arith)
first_line (b ∷ job) h = go (eqb b LF) (lines job)
  where
    go : (t : Bool) (ps : List (List ℕ)) → (l : List ℕ) × (ls : List (List ℕ)) × (cond t ([] ∷ ps) (extend b ps) ≡ l ∷ ls)
    go true ps = ([], ps, refl)
    go false [] = (b ∷ [], [], refl)
    go false (p ∷ ps) = (b ∷ p, ps, refl)

-- An accepted job: its first line is a header in range, and the lines behind it are accepted with nothing recorded.
pub record Begun (job : List ℕ) : Type 0 where
  pub header : Header
  pub text : List ℕ
  pub rest : List (List ℕ)
  pub split : lines job ≡ text ∷ rest
  pub reads : read_line_of text ≡ some (Written.header header)
  pub range : in_range header ≡ true
  pub edition : known_edition header.edition ≡ true
  pub passes : Accepted 2 (between header 0) rest
  pub is : job_of job ≡ record { header = header; text = text; instructions = (gathered 2 rest).instructions }

-- what stands first, before any header, is a header
begun_with : (job l : List ℕ) (ls : List (List ℕ)) (w : Written) → lines job ≡ l ∷ ls → read_line_of l ≡ some w → Passing no_context_of ls w
    → check_lines_of 2 (next no_context_of w) ls ≡ accepted → Begun job
unfolding header_fits_of own_tests next between no_context_of job_of_lines header_of
begun_with job l ls (Written.header h) split reads t p =
    record {
      header = h;
      text = l;
      rest = ls;
      split = split;
      reads = reads;
      range = t.header;
      edition = not-false _ t.own.0;
      passes = record { begun = refl; ends = t.ends; passes = p };
      is = rw (split, reads);
    }
begun_with job l ls (Written.line i) split reads t p = absurd (true≢false (sym t.header))
begun_with job l ls (Written.noise n) split reads t p = absurd (true≢false (sym t.header))
begun_with job l ls (Written.element w P) split reads t p = absurd (true≢false (sym t.header))

begun_lines : (job l : List ℕ) (ls : List (List ℕ)) → lines job ≡ l ∷ ls → check_lines_of 1 no_context_of (l ∷ ls) ≡ accepted → Begun job
unfolding next_of
begun_lines job l ls split p =
    let parts = passes_first 1 no_context_of l ls p in
    let good = good_says no_context_of (is_last ls) (read_line_of l) (line_fits l) parts.0 in
    begun_with job l ls good.0 split good.1 (passing no_context_of ls good.0 (rw good.1 at parts.0)) (rw good.1 at parts.1)

pub job_begun : (job : List ℕ) → (check_job job).number ≡ 0 → Begun job
job_begun job e =
    let whole = job_passes job e in
    let first = first_line job (ended_parts job whole.0).0 in
    begun_lines job first.0 first.1 first.2 (rw first.2 at whole.1)
