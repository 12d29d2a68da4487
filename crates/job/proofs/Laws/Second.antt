-- A line of a form that the second edition adds, in a job of the first: laws. Assumes nothing.
use Rattle.std.specs.Prelude.{ℕ, suc, ◌+◌, ◌≤◌, ◌<◌, ◌≡◌, refl, Bool, false, cond, not, ◌&&◌, ◌⊎◌, eqb, ltb, length}
use Rattle.std.proofs.Common.{arith, sym, ◌∙◌, true≢false, inr}
use Rattle.std.proofs.Math.Decide.{ℕ_discrete}
use Rattle.std.proofs.Math.Path.{ap, subst}
use Rattle.std.proofs.Math.Bool.{true}
use Rattle.std.proofs.Math.Logic.{inl}
use mathlib.Core.List.{List, [], ◌∷◌, ◌++◌}
use Rattle.std.proofs.Math.Option.{Option, none, some}
use Rattle.text.specs.Bytes.{lines}
use Rattle.job.specs.declared.Header.{Header}
use Rattle.job.specs.declared.Answer.{Answer}
use Rattle.job.specs.Grammar.{Written, read_line_of}
use Rattle.job.specs.Checks.{Context, no_context_of, next, test, expected, is_second_of, in_edition_of, header_fits_of, own_tests, lowest, refusal_of}
use Rattle.job.specs.Job.{answer, well_ended_of, is_last, next_of, check_lines_of, check_job, header_of, job_of_lines, job_of}
use Rattle.job.specs.Contexts.{RefusedAt}
use Rattle.job.proofs.Laws.Accepted.{number_after, checks_bad, checks_good, Passing, passing}
use Rattle.job.proofs.Laws.Recorded.{same_header}

-- ---- one line

pub second_two : (c : Context) (last : Bool) (w : Written) → is_second_of w ≡ true → c.header.edition ≡ 1 → refusal_of c last (some w) ≡ 2
unfolding refusal_of lowest
second_two c last w second one =
    go (expected c w) (not (last && ltb 0 (next c w).due)) (in_edition_of c w) out (lowest (test 3 (header_fits_of c w) ∷ own_tests c w))
  where
    out : in_edition_of c w ≡ false
    out = rw second (ap (λ (n : ℕ). eqb n 2) one)

    go : (e d i : Bool) → i ≡ false → (later : ℕ) → cond (not (e && d && i)) 2 later ≡ 2
    go true true true q later = absurd (true≢false q)
    go true true false q later = refl
    go true false i q later = refl
    go false d i q later = refl

-- ---- lines

-- the same refusal, from a line before on
earlier : (k n : ℕ) (a : Answer) → RefusedAt (suc k) n a → RefusedAt k (suc n) a
earlier k n a r = record { number = r.number; from = omega (arith, r.from); below = omega (arith, r.below) }

-- A good line has a form and passes its tests.
good_line : (c : Context) (ls : List (List ℕ)) (o : Option Written) → refusal_of c (is_last ls) o ≡ 0 → (w : Written) × (o ≡ some w) × Passing c ls w
good_line c ls none e = let no : ◌≡◌ {A = ℕ} 2 0 = unfold refusal_of in e in absurd (omega (arith, no))
good_line c ls (some w) e = (w, refl, passing c ls w e)

-- A good line after the header leaves it known.
still_begun : (c : Context) (ls : List (List ℕ)) (w : Written) → c.begun ≡ true → Passing c ls w → (next c w).begun ≡ true
unfolding next header_fits_of
still_begun c ls (Written.header h) b t = refl
still_begun c ls (Written.line i) b t = b
still_begun c ls (Written.noise n) b t = b
still_begun c ls (Written.element w P) b t = b

module _ (l : List ℕ) (after : List (List ℕ)) (w : Written) (reads : read_line_of l ≡ some w) (second : is_second_of w ≡ true) where
  -- refused by 2 after n lines from line k on, or at one of these
  abbrev Refused : ℕ → ℕ → Answer → Type 0
  Refused k n a = (a ≡ answer 2 (k + n)) ⊎ RefusedAt k n a

  here : (k : ℕ) (c : Context) → c.header.edition ≡ 1 → check_lines_of k c (l ∷ after) ≡ answer 2 k
  here k c one =
      let two : number_after c l after ≡ 2 = ap (refusal_of c (is_last after)) reads ∙ second_two c (is_last after) w second one in
      checks_bad k c l after (λ z. absurd (omega (arith, two, z))) ∙ ap (λ (n : ℕ). answer n k) two

  bad_line : (k n : ℕ) (c : Context) (b : List ℕ) (ls : List (List ℕ)) → (number_after c b ls ≡ 0 → ⊥) → Refused k (suc n) (check_lines_of k c (b ∷ ls))
  bad_line k n c b ls bad =
      let e = checks_bad k c b ls bad in
      inr (subst (RefusedAt k (suc n)) (sym e) record { number = positive; from = omega arith; below = omega arith })
    where
      positive : 0 < number_after c b ls
      positive = omega (arith, bad)

  later : (k n : ℕ) (a : Answer) → Refused (suc k) n a → Refused k (suc n) a
  later k n a (inl e) = inl (e ∙ ap (answer 2) (omega arith))
  later k n a (inr r) = inr (earlier k n a r)

  lines_refused : (k : ℕ) (c : Context) (before : List (List ℕ)) → c.begun ≡ true → c.header.edition ≡ 1
      → Refused k (length before) (check_lines_of k c (before ++ l ∷ after))
  lines_refused k c [] begun one = inl (here k c one ∙ ap (answer 2) (omega arith))
  lines_refused k c (b ∷ before) begun one = go (ℕ_discrete (number_after c b ls) 0) (lines_refused (suc k) (next_of c (read_line_of b)) before)
    where
      ls : List (List ℕ)
      ls = before ++ l ∷ after

      go : Dec (number_after c b ls ≡ 0)
          → ((next_of c (read_line_of b)).begun ≡ true → (next_of c (read_line_of b)).header.edition ≡ 1
          → Refused (suc k) (length before) (check_lines_of (suc k) (next_of c (read_line_of b)) ls))
          → Refused k (suc (length before)) (check_lines_of k c (b ∷ ls))
      go (no bad) ih = bad_line k (length before) c b ls bad
      go (yes good) ih =
          let (said, reads, t) = good_line c ls (read_line_of b) good in
          let is : next_of c (read_line_of b) ≡ next c said = ap (next_of c) reads ∙ (unfold next_of in refl) in
          let still : (next_of c (read_line_of b)).begun ≡ true = ap (λ (d : Context). d.begun) is ∙ still_begun c ls said begun t in
          let same : (next_of c (read_line_of b)).header.edition ≡ 1 =
          ap (λ (d : Context). d.header.edition) is ∙ ap (λ (h : Header). h.edition) (same_header c ls said begun t) ∙ one in
          subst (Refused k (suc (length before))) (sym (checks_good k c b ls good)) (later k (length before) _ (ih still same))

  -- a good first line is the header
  first_header : (ls : List (List ℕ)) (said : Written) → Passing no_context_of ls said → (header_of (some said)).edition ≡ 1
      → ((next no_context_of said).begun ≡ true) × ((next no_context_of said).header.edition ≡ 1)
  unfolding next header_fits_of no_context_of header_of
  first_header ls (Written.header h) t one = (refl, one)
  first_header ls (Written.line i) t one = absurd (true≢false (sym t.header))
  first_header ls (Written.noise n) t one = absurd (true≢false (sym t.header))
  first_header ls (Written.element v P) t one = absurd (true≢false (sym t.header))

  all_refused : (before : List (List ℕ)) → (job_of_lines (before ++ l ∷ after)).header.edition ≡ 1
      → Refused 1 (length before) (check_lines_of 1 no_context_of (before ++ l ∷ after))
  unfolding job_of_lines
  all_refused [] one = inl (here 1 no_context_of (unfold no_context_of in refl))
  all_refused (b ∷ before) one = go (ℕ_discrete (number_after no_context_of b ls) 0)
    where
      ls : List (List ℕ)
      ls = before ++ l ∷ after

      go : Dec (number_after no_context_of b ls ≡ 0) → Refused 1 (suc (length before)) (check_lines_of 1 no_context_of (b ∷ ls))
      go (no bad) = bad_line 1 (length before) no_context_of b ls bad
      go (yes good) =
          let (said, reads, t) = good_line no_context_of ls (read_line_of b) good in
          let is : next_of no_context_of (read_line_of b) ≡ next no_context_of said = ap (next_of no_context_of) reads ∙ (unfold next_of in refl) in
          let (begun, edition) = first_header ls said t (ap (λ (o : Option Written). (header_of o).edition) (sym reads) ∙ one) in
          let rest : Refused 2 (length before) (check_lines_of 2 (next_of no_context_of (read_line_of b)) ls) =
          lines_refused 2 (next_of no_context_of (read_line_of b)) before (ap (λ (d : Context). d.begun) is ∙ begun) (ap (λ (d : Context). d.header.edition) is ∙ edition) in
          subst (Refused 1 (suc (length before))) (sym (checks_good 1 no_context_of b ls good)) (later 1 (length before) _ rest)

  pub job_refused : (job : List ℕ) (before : List (List ℕ)) → well_ended_of job ≡ true → (job_of job).header.edition ≡ 1 → lines job ≡ before ++ l ∷ after
      → Refused 1 (length before) (check_job job)
  unfolding check_job
  job_refused job before ended one split =
      rw (ended, split) (all_refused before (ap (λ (ls : List (List ℕ)). (job_of_lines ls).header.edition) (sym split) ∙ one))
