-- The locations of a job, line by line. Laws. Assumes nothing.
use Rattle.std.specs.Prelude.{ℕ, ◌+◌, ◌*◌, ◌≤◌, ◌≡◌, List, ◌∷◌, length, drop}
use Rattle.std.proofs.Common.{sym, ap, ◌∙◌, drop_of_length-le, arith, length-take-le}
use Rattle.std.proofs.Math.Option.{some}
use Rattle.text.specs.Bytes.{pieces, lines}
use Rattle.job.specs.Grammar.{Written, read_line_of}
use Rattle.circuit.specs.Annotate.{located_on, locations_at, locations}
use borrow.Author.Tests.{eq-eqb, ne_eqb}
use Rattle.job.specs.Job.{check_job, accepted}
use Rattle.instructions.specs.declared.LineRead.{LineRead}
use Rattle.instructions.specs.Reading.{line_at, NextLine}
use Rattle.instructions.specs.Lines.{Left}
use Rattle.instructions.specs.Laws.Lines.{left_all, here, line_read, left_more}
use Rattle.annotation.specs.Qubits.{LocatedQubits}
use Rattle.job.specs.declared.Answer.{Answer}
use Rattle.circuit.specs.Replies.{locations_reply}

locations_line : (l : List ℕ) (ls : List (List ℕ)) (w : Written) → read_line_of l ≡ some w → locations (l ∷ ls) ≡ 2 * length (located_on (some w)) + locations ls
unfolding locations locations_at
locations_line l ls w reads = rw reads

-- ---- the loop over a job's lines

pub record Counting (job : List ℕ) (at count : ℕ) : Type 0 where
  pub number : ℕ
  pub left : Left job number at
  pub same : locations (lines job) ≡ count + locations (lines (drop at job))
  pub bound : count ≤ 248 * at

pub count_none : (job : List ℕ) → (check_job job).number ≡ 0 → Counting job 0 0
count_none job e = record { number = 1; left = left_all job e; same = omega arith; bound = omega arith }

pub count_more : {job : List ℕ} {at count : ℕ} {line : LineRead} {fields : List ℕ} {n : ℕ} {words : List ℕ} → Counting job at count
    → NextLine job at line fields → LocatedQubits line.form fields n words → n ≤ length words → Counting job (line.end + 1) (count + 2 * n)
count_more {job} {at} {count} {line} {fields} {n} {words} c l q h =
    let r = here c.left l in
    let size : n ≡ length (located_on (some r.written)) = sym (length-take-le n words h) ∙ ap length (q.qubits r.written (line_read c.left l)) in
    let step = ap locations l.place.cut ∙ locations_line (line_at job at line.end) (lines (drop (line.end + 1) job)) r.written r.reads in
    record {
      number = c.number + 1;
      left = left_more c.left l;
      same = omega (arith, c.same, step, size);
      bound = omega (arith, c.bound, q.few, l.place.begins);
    }

pub count_all : {job : List ℕ} {at count : ℕ} → Counting job at count → length job ≤ at → count ≡ locations (lines job)
unfolding pieces locations
count_all {job} {at} {count} c h =
    let none = ap (λ (l : List ℕ). locations (lines l)) (drop_of_length-le job h) in omega (arith, c.same, none)

-- ---- the reply

module _ (job : List ℕ) where
  pub refused_count : {a : Answer} → a ≡ check_job job → (a.number ≡ 0 → ⊥) → record { answered = a; count = 0 } ≡ locations_reply job
  unfolding locations_reply
  refused_count e h = rw (← e, ne_eqb _ 0 h)

  pub counted : {n : ℕ} → (check_job job).number ≡ 0 → n ≡ locations (lines job) → record { answered = accepted; count = n } ≡ locations_reply job
  unfolding locations_reply
  counted h e = rw (eq-eqb (check_job job).number 0 h, e)
