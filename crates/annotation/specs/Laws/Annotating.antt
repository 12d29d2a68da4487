-- The loops over a job's lines. Laws. Assumes nothing.
use Rattle.std.specs.Prelude.{ℕ, suc, ◌+◌, ◌-◌, ◌*◌, ◌^◌, ◌≤◌, ◌<◌, ◌≡◌, refl, Bool, true, false, List, [], ◌∷◌, ◌++◌, leb, length, take, drop, Ok, Err}
use Rattle.std.proofs.Common.{arith, sym, ap, subst, ◌∙◌, append-nil, length-append, drop_of_length-le, leb-true}
use Rattle.std.proofs.Math.Option.{some}
use Rattle.text.specs.Bytes.{LF, pieces, lines, unlines}
use Rattle.text.specs.Template.{Value}
use Rattle.job.specs.Grammar.{Written}
use Rattle.job.specs.Checks.{max_members}
use Rattle.job.specs.Job.{check_job}
use Rattle.reader.specs.Parsed.{form_of}
use Rattle.instructions.specs.declared.LineRead.{LineRead}
use Rattle.instructions.specs.Reading.{line_at, NextLine}
use Rattle.instructions.specs.Lines.{Left}
use Rattle.instructions.specs.Laws.Lines.{Passed, left_all, here, line_read, left_more}
use Rattle.instructions.specs.Laws.Places.{whole_line}
use Rattle.writer.specs.Placed.{Puts}
use Rattle.line_writer.specs.Line.{depolarizing_start, depolarizing_text, StartOf}
use Rattle.writer.specs.Laws.Placing.{placed_over, puts_length, Rest, rest_all, rest_more, rest_none}
use Rattle.line_writer.specs.Laws.Lines.{start_length, depolarizing_next}
use Rattle.circuit.specs.Annotate.{noise_text_of, noise_lines_of, annotated, annotated_text, noise_on, first_unfit}
use Rattle.annotation.specs.Qubits.{NoiseQubits}
use Rattle.annotation.specs.Lines.{before_it, around_text, unfit_line, Annotates}
use Rattle.annotation.specs.Laws.Merging.{part_few}
use Rattle.annotation.specs.Laws.Around.{annotated_line, unfit_here, unfit_later}

-- ---- the noise of one line

-- how its line begins, in 50 bytes
pub started : {start : List ℕ} → StartOf start → length start ≡ 50
started s = ap length s.text ∙ start_length s.probability

pub start_put : (p : ℕ) {out after : List ℕ} {next : ℕ} → Puts 0 (depolarizing_start p) out after next → length after ≡ 50 → after ≡ depolarizing_start p
start_put p {out} {after} w e =
    let size : length (depolarizing_start p) ≡ length out = start_length p ∙ sym e ∙ puts_length w in
    let fits : length (depolarizing_start p) ≤ length out = omega arith in
    let past : length out ≤ length (depolarizing_start p) = omega arith in
    let none : drop (length (depolarizing_start p)) out ≡ [] = drop_of_length-le out past in
    w.bytes ∙ placed_over (depolarizing_start p) out fits ∙ ap (λ (l : List ℕ). depolarizing_start p ++ l) none ∙ append-nil (depolarizing_start p)

pub noise_empty : (p : ℕ) (qs : List ℕ) → length qs ≡ 0 → unlines (noise_lines_of p qs) ≡ []
unfolding unlines noise_lines_of
noise_empty p [] h = refl
noise_empty p (q ∷ qs) h = absurd (omega arith)

pub noise_some : (p : ℕ) (qs : List ℕ) → (length qs ≡ 0 → ⊥)
    → unlines (noise_lines_of p qs) ≡ depolarizing_text p qs ++ LF ∷ []
unfolding unlines noise_lines_of noise_text_of
noise_some p [] h = absurd (h refl)
noise_some p (q ∷ qs) h = refl

-- how long it is
noise_length : (p : ℕ) (qs : List ℕ) → length (unlines (noise_lines_of p qs)) ≤ 21 * length qs + 81
noise_length p [] = rw (noise_empty p [] refl) (omega arith)
noise_length p (q ∷ qs) =
    let text = noise_some p (q ∷ qs) (λ (e : suc (length qs) ≡ 0). omega arith) in
    rw text (omega (arith, depolarizing_next p (q ∷ qs) {at = 0} {out = []} (record { bytes = refl; place = refl })))

pub noise_next : (p : ℕ) (qs : List ℕ) {at : ℕ} {out after : List ℕ} {next : ℕ} → Puts at (unlines (noise_lines_of p qs)) out after next → next ≤ at + (21 * length qs + 81)
noise_next p qs w = omega (arith, w.place, noise_length p qs)

pub around_next : (before : Bool) (line : List ℕ) (p : ℕ) (qs : List ℕ) {at : ℕ} {out after : List ℕ} {next : ℕ}
    → Puts at (around_text before line (unlines (noise_lines_of p qs))) out after next → next ≤ at + length line + (21 * length qs + 81)
around_next true line p qs w = omega (arith, w.place, length-append (unlines (noise_lines_of p qs)) line, noise_length p qs)
around_next false line p qs w = omega (arith, w.place, length-append line (unlines (noise_lines_of p qs)), noise_length p qs)

-- ---- annotation

-- the text of the lines before `at` is put, and none of them is unfit
pub record Annotating (job : List ℕ) (p : ℕ) (out : List ℕ) (k at next : ℕ) (after : List ℕ) : Type 0 where
  pub left : Left job k at
  pub unfit : first_unfit 1 (lines job) ≡ first_unfit k (lines (drop at job))
  pub rest : Rest 0 (annotated_text p job) out next (unlines (annotated p (lines (drop at job)))) after
  pub bound : next ≤ 733 * at

pub put_none : {job : List ℕ} {p : ℕ} {out : List ℕ} → (check_job job).number ≡ 0 → Annotating job p out 1 0 0 out
unfolding annotated_text
put_none {job} e = record { left = left_all job e; unfit = refl; rest = rest_all; bound = omega arith }

module _ {job : List ℕ} {p : ℕ} {out : List ℕ} {k at next : ℕ} {after : List ℕ} (a : Annotating job p out k at next after) {line : LineRead} {fields : List ℕ}
    (l : NextLine job at line fields) {n : ℕ} {words : List ℕ} (q : NoiseQubits line.form fields n words) where
  abbrev read : Passed k (line_at job at line.end) (lines (drop (line.end + 1) job))
  read = here a.left l

  over : take n words ≡ noise_on (some read.written)
  over = q.qubits read.written (line_read a.left l)

  -- at most 31
  abbrev Fits : Bool → Type 0
  Fits b = b ≡ leb (length (take n words)) max_members

  pub put_stops : {last : List ℕ} → Fits false → Annotates job p (Err (record { line = k })) out last
  unfolding unfit_line
  put_stops h =
      record {
        unfit =
            a.unfit ∙ ap (first_unfit k) l.place.cut
            ∙ unfit_here (line_at job at line.end) (lines (drop (line.end + 1) job)) read.written read.reads k (rw over at (sym h));
        puts = λ bytes e. cc;
      }

  pub fits_few : Fits true → length (take n words) ≤ 31
  fits_few h = leb-true _ _ (sym h)

  line_size : length (take (line.end + 1 - at) (drop at job)) ≤ line.end + 1 - at
  line_size = part_few (line.end + 1 - at) (drop at job)

  -- there is room for the line and its noise
  pub put_room : Fits true → next + (length (take (line.end + 1 - at) (drop at job)) + (21 * length (take n words) + 81)) < 2 ^ 64
  put_room h = omega (arith, fits_few h, line_size, a.bound, a.left.within, a.left.size, l.place.inside)

  pub put_more : {more : List ℕ} {end : ℕ} (before : Bool) → Fits true
      → ((vs : List Value) (w : Written) → (form_of line.form).says vs ≡ some w → before ≡ before_it w)
      → Puts next (around_text before (take (line.end + 1 - at) (drop at job)) (unlines (noise_lines_of p (take n words)))) after more end
      → Annotating job p out (k + 1) (line.end + 1) end more
  put_more {more} {end} before fits ahead puts =
      let said = line_read a.left l in
      let e = ahead said.values read.written said.said.says in
      let far = around_next before (take (line.end + 1 - at) (drop at job)) p (take n words) puts in
      let text = line_at job at line.end in
      let behind = lines (drop (line.end + 1) job) in
      let whole : Rest 0 (annotated_text p job) out next (around_text before (take (line.end + 1 - at) (drop at job)) (unlines (noise_lines_of p (take n words))) ++ unlines (annotated p behind)) after =
      rw (whole_line l.place, e, over, ← annotated_line text behind read.written read.reads p, ← l.place.cut) a.rest
      in
      record {
        left = left_more a.left l;
        unfit = a.unfit ∙ ap (first_unfit k) l.place.cut ∙ unfit_later text behind read.written read.reads k (rw over at (sym fits));
        rest = rest_more whole puts;
        bound = omega (arith, a.bound, far, fits_few fits, line_size, l.place.begins);
      }

pub put_all : {job : List ℕ} {p : ℕ} {out : List ℕ} {k at next : ℕ} {after : List ℕ} → Annotating job p out k at next after → length job ≤ at
    → Annotates job p (Ok next) out after
unfolding pieces first_unfit annotated unlines unfit_line
put_all {job} {p} {out} {k} {at} {next} {after} a h =
    let end = drop_of_length-le job h in
    record {
      unfit = a.unfit ∙ ap (λ (l : List ℕ). first_unfit k (lines l)) end;
      puts = λ bytes e. let same : next ≡ bytes = cc in subst (Puts 0 (annotated_text p job) out after) same (rest_none (subst (λ (l : List ℕ). Rest 0 (annotated_text p job) out next (unlines (annotated p (lines l))) after) end a.rest));
    }
