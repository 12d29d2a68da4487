-- The lines of an accepted job, one after the other. Laws. Assumes nothing.
use Rattle.std.specs.Prelude.{ℕ, zero, suc, ◌+◌, ◌<◌, ◌≡◌, refl, true, List, ◌∷◌, length, drop}
use Rattle.std.proofs.Common.{add-one, arith, subst}
use Rattle.std.proofs.Math.Option.{none, some}
use Rattle.text.specs.Bytes.{lines}
use Rattle.job.specs.Grammar.{Written, read_line_of}
use Rattle.job.specs.Checks.{Context, no_context_of, in_edition_of, own_tests}
use Rattle.job.specs.Job.{is_last, next_of, check_job}
use Rattle.job.proofs.Laws.Tests.{AllPass}
use Rattle.job.specs.Fits.{WrittenFits}
use Rattle.job.proofs.Laws.Forms.{line_fits}
use Rattle.job.proofs.Laws.Lines.{line_sound}
use Rattle.job.proofs.Laws.Accepted.{passes_first, passing, good_says}
use Rattle.job.proofs.Laws.Begun.{ended_parts, job_passes}
use Rattle.instructions.specs.declared.LineRead.{LineRead}
use Rattle.instructions.specs.Reading.{line_at, NextLine}
use Rattle.instructions.specs.Lines.{Passes, Left, WrittenSound, KnownAt, SoundRead, SomeRead, numbered}
use Rattle.instructions.specs.Laws.Meaning.{read_says}

-- ---- numbers of lines

pub numbered_some : (k : ℕ) → (k ≡ 0 → ⊥) → numbered k ≡ some k
unfolding numbered
numbered_some zero h = absurd (h refl)
numbered_some (suc k) h = refl

pub numbered_none : (k : ℕ) → numbered k ≡ none → k ≡ 0
unfolding numbered
numbered_none zero e = refl
numbered_none (suc k) e = let z : ◌≡◌ {A = ℕ} 0 1 = cc in absurd (omega arith)

-- ---- a line and those behind it

written_sound : (c : Context) (w : Written) → WrittenFits w → in_edition_of c w ≡ true → AllPass (own_tests c w) → WrittenSound w
unfolding WrittenSound WrittenFits own_tests
written_sound c (Written.header h) f e t = tt
written_sound c (Written.line i) f e t = (c.header, c.recorded, line_sound c i f e t)
written_sound c (Written.noise n) f e t = tt
written_sound c (Written.element w P) f e t = tt

-- the first of lines that pass, and the others
pub record Passed (k : ℕ) (l : List ℕ) (ls : List (List ℕ)) : Type 0 where
  pub written : Written
  pub reads : read_line_of l ≡ some written
  pub sound : WrittenSound written
  pub rest : Passes (suc k) ls

pub passes_line : {k : ℕ} {l : List ℕ} {ls : List (List ℕ)} → Passes k (l ∷ ls) → Passed k l ls
passes_line {k} {l} {ls} a =
    let parts = passes_first k a.context l ls a.passes in
    let good = good_says a.context (is_last ls) (read_line_of l) (line_fits l) parts.0 in
    let own = passing a.context ls good.0 (rw good.1 at parts.0) in
    record {
      written = good.0;
      reads = good.1;
      sound = written_sound a.context good.0 good.2 own.edition own.own;
      rest = record { context = next_of a.context (read_line_of l); passes = parts.1 };
    }

-- ---- a job from line to line

pub left_all : (job : List ℕ) → (check_job job).number ≡ 0 → Left job 1 0
left_all job e =
    let p = job_passes job e in
    record {
      within = omega arith;
      ended = p.0;
      size = (ended_parts job p.0).1;
      first = omega arith;
      number = omega arith;
      passes = record { context = no_context_of; passes = p.1 };
    }

pub left_known : {job : List ℕ} {k at : ℕ} → Left job k at → at < length job → KnownAt job at
left_known {k = k} a inside = record { ended = a.ended; inside = inside; number = k; passes = a.passes }

module _ {job : List ℕ} {k at : ℕ} (a : Left job k at) {next : LineRead} {fields : List ℕ} (n : NextLine job at next fields) where
  pub here : Passed k (line_at job at next.end) (lines (drop (next.end + 1) job))
  here = passes_line (subst (Passes k) n.place.cut a.passes)

  pub line_read : SoundRead next.form fields here.written
  line_read = let (vs, said) = read_says n.parsed here.reads in record { values = vs; said = said; sound = here.sound }

  pub some_read : SomeRead next.form fields
  some_read = record { written = here.written; read = line_read }

  pub left_more : Left job (k + 1) (next.end + 1)
  left_more =
      record {
        within = omega (arith, n.place.inside);
        ended = a.ended;
        size = a.size;
        first = omega arith;
        number = omega (arith, a.number, n.place.begins);
        passes = rw (add-one k) here.rest;
      }
