-- An accepted job line by line: laws of the fold of the checks. Assumes nothing.
use Rattle.std.specs.Prelude.{ℕ, suc, ◌≡◌, Bool, not, ◌&&◌, List, [], ◌∷◌, ltb}
use Rattle.std.proofs.Math.Path.{refl}
use Rattle.std.proofs.Common.{ap, ◌∙◌, arith, eqb-true, eq-eqb, ne_eqb}
use Rattle.std.proofs.Math.Bool.{true, false, cond}
use Rattle.std.proofs.Math.Option.{Option, none, some}
use Rattle.std.proofs.lemmas.Bool.{eqb-false, not-true, not-false}
use Rattle.std.proofs.Math.Dec.{eqb}
use Rattle.text.proofs.Laws.Values.{both}
use Rattle.job.specs.declared.Answer.{Answer}
use Rattle.job.specs.Grammar.{Written, read_line_of}
use Rattle.job.specs.Checks.{Context, next, expected, in_edition_of, header_fits_of, own_tests, tests, refusal_of}
use Rattle.job.specs.Job.{answer, accepted, is_last, next_of, check_lines_of}
use Rattle.job.specs.Contexts.{Accepted}
use Rattle.job.proofs.Laws.Tests.{AllPass, refusal_passes, passes_lowest}
use Rattle.job.specs.Fits.{WrittenFits, SaidFits}
use Rattle.job.proofs.Laws.Forms.{line_fits}

-- the number of a line among others
abbrev pub number_after : Context → List ℕ → List (List ℕ) → ℕ
number_after c l ls = refusal_of c (is_last ls) (read_line_of l)

module _ (k : ℕ) (c : Context) (l : List ℕ) (ls : List (List ℕ)) where
  -- a bad line ends the checks
  pub checks_bad : (number_after c l ls ≡ 0 → ⊥) → check_lines_of k c (l ∷ ls) ≡ answer (number_after c l ls) k
  unfolding check_lines_of
  checks_bad h = rw (ne_eqb (number_after c l ls) 0 h)

  -- behind a good line they go on
  pub checks_good : number_after c l ls ≡ 0 → check_lines_of k c (l ∷ ls) ≡ check_lines_of (suc k) (next_of c (read_line_of l)) ls
  unfolding check_lines_of
  checks_good h = rw (eq-eqb (number_after c l ls) 0 h)

  -- the first line of an accepted list is good, and the rest is accepted in the next context
  pub passes_first : check_lines_of k c (l ∷ ls) ≡ accepted → (number_after c l ls ≡ 0) × (check_lines_of (suc k) (next_of c (read_line_of l)) ls ≡ accepted)
  unfolding check_lines_of
  passes_first p = go (eqb (number_after c l ls) 0) refl p
    where
      go : (b : Bool) → eqb (number_after c l ls) 0 ≡ b → cond b (check_lines_of (suc k) (next_of c (read_line_of l)) ls) (answer (number_after c l ls) k) ≡ accepted
          → (number_after c l ls ≡ 0) × (check_lines_of (suc k) (next_of c (read_line_of l)) ls ≡ accepted)
      go true e p = (eqb-true _ 0 e, p)
      go false e p = absurd (eqb-false (number_after c l ls) 0 e (ap (λ (a : Answer). a.number) p))

-- an answer with the number 0 says that all lines are accepted
pub zero_passes : (k : ℕ) (c : Context) (ls : List (List ℕ)) → (check_lines_of k c ls).number ≡ 0 → check_lines_of k c ls ≡ accepted
unfolding check_lines_of
zero_passes k c [] z = refl
zero_passes k c (l ∷ ls) z = go (eqb (number_after c l ls) 0) refl z (zero_passes (suc k) (next_of c (read_line_of l)) ls)
  where
    go : (b : Bool) → eqb (number_after c l ls) 0 ≡ b
        → (cond b (check_lines_of (suc k) (next_of c (read_line_of l)) ls) (answer (number_after c l ls) k)).number ≡ 0
        → ((check_lines_of (suc k) (next_of c (read_line_of l)) ls).number ≡ 0 → check_lines_of (suc k) (next_of c (read_line_of l)) ls ≡ accepted)
        → cond b (check_lines_of (suc k) (next_of c (read_line_of l)) ls) (answer (number_after c l ls) k) ≡ accepted
    go true e z ih = ih z
    go false e z ih = absurd (eqb-false (number_after c l ls) 0 e z)

-- ---- what a good line is known for

-- what a line says that passes all of its tests, with these lines behind it
pub record Passing (c : Context) (ls : List (List ℕ)) (w : Written) : Type 0 where
  pub due : expected c w ≡ true
  -- on the job's last line no element is missing
  pub ends : (is_last ls && ltb 0 (next c w).due) ≡ false
  pub edition : in_edition_of c w ≡ true
  pub header : header_fits_of c w ≡ true
  pub own : AllPass (own_tests c w)

pub passing : (c : Context) (ls : List (List ℕ)) (w : Written) → refusal_of c (is_last ls) (some w) ≡ 0 → Passing c ls w
passing c ls w e =
    let t = refusal_passes c (is_last ls) w e in
    let form = both _ (in_edition_of c w) (not-false _ t.0) in
    let begins = both (expected c w) _ form.0 in
    record { due = begins.0; ends = not-true _ begins.1; edition = form.1; header = not-false _ t.1.0; own = t.1.1 }

-- and the other way round
pub passing_good : (c : Context) (ls : List (List ℕ)) (w : Written) → Passing c ls w → refusal_of c (is_last ls) (some w) ≡ 0
unfolding refusal_of
passing_good c ls w t =
    passes_lowest (tests c (is_last ls) w)
    (rw (t.due, t.ends, t.edition), (ap not t.header, t.own))

-- a good line has a form, and is good for its letters
pub good_says : (c : Context) (last : Bool) (o : Option Written) → SaidFits o → refusal_of c last o ≡ 0 → (w : Written) × (o ≡ some w) × WrittenFits w
unfolding refusal_of SaidFits
good_says c last none f e = absurd (omega arith)
good_says c last (some w) f e = (w, refl, f)

-- ---- lines behind the header

-- the first of such lines, and the others
pub record First (k : ℕ) (c : Context) (l : List ℕ) (ls : List (List ℕ)) : Type 0 where
  pub says : Written
  pub reads : read_line_of l ≡ some says
  pub fits : WrittenFits says
  pub passing : Passing c ls says
  pub rest : Accepted (suc k) (next c says) ls

begun_next : (c : Context) (w : Written) → c.begun ≡ true → (next c w).begun ≡ true
unfolding next
begun_next c (Written.header h) e = refl
begun_next c (Written.line l) e = e
begun_next c (Written.noise n) e = e
begun_next c (Written.element w P) e = e

pub accepted_first : {k : ℕ} {c : Context} {l : List ℕ} {ls : List (List ℕ)} → Accepted k c (l ∷ ls) → First k c l ls
unfolding next_of
accepted_first {k} {c} {l} {ls} a =
    let parts = passes_first k c l ls a.passes in
    let good = good_says c (is_last ls) (read_line_of l) (line_fits l) parts.0 in
    let own = passing c ls good.0 (rw good.1 at parts.0) in
    record {
      says = good.0;
      reads = good.1;
      fits = good.2;
      passing = own;
      rest = record { begun = begun_next c good.0 a.begun; ends = own.ends; passes = rw good.1 at parts.1 };
    }

-- A line that passes, in front of lines that are accepted behind it. So the lines of an accepted job can be copied, and others put between them.
pub accepted_more : (k : ℕ) (c : Context) (l : List ℕ) (ls : List (List ℕ)) (w : Written) → c.begun ≡ true → read_line_of l ≡ some w → Passing c ls w
    → Accepted (suc k) (next c w) ls → Accepted k c (l ∷ ls)
unfolding next_of
accepted_more k c l ls w begun reads t a =
    record {
      begun = begun;
      ends = refl;
      passes =
          checks_good k c l ls (ap (refusal_of c (is_last ls)) reads ∙ passing_good c ls w t)
          ∙ ap (λ (o : Option Written). check_lines_of (suc k) (next_of c o) ls) reads
          ∙ a.passes;
    }
