-- A pass over a job's lines. Laws. Assumes nothing.
use Rattle.std.specs.Prelude.{ℕ, ◌+◌, ◌-◌, ◌<◌, ◌≡◌, Bool, true, List, ◌∷◌, eqb, drop}
use Rattle.std.proofs.Common.{arith, subst, ◌∙◌}
use Rattle.std.proofs.Math.Path.{refl, sym, ap}
use Rattle.std.proofs.Math.Bool.{false}
use Rattle.std.proofs.Math.Option.{some}
use Rattle.std.proofs.Math.ListN.{length}
use Rattle.text.specs.Bytes.{lines}
use Rattle.text.specs.Template.{Value}
use Rattle.job.specs.Grammar.{Written, read_line_of}
use Rattle.job.specs.Checks.{Context, next, refusal_of}
use Rattle.job.specs.Job.{answer, is_last, next_of, check_lines_of, check_job}
use Rattle.job.specs.Contexts.{context_after}
use Rattle.job.proofs.Laws.Recorded.{after_first}
use Rattle.reader.specs.declared.Form.{Form}
use Rattle.reader.specs.Parsed.{is_unread, Parsed, Said}
use Rattle.line_reader.specs.Reading.{line_from_of, end_from, behind}
use Rattle.line_reader.proofs.Laws.Lines.{hands_out, behind_more}
use Rattle.instructions.specs.Laws.Places.{last_line, line_ends}
use Rattle.instructions.specs.Laws.Meaning.{said_by}
use Rattle.check_values.specs.declared.context.Context.{Context as Known}
use Rattle.check_values.specs.Contexts.{context_of}
use Rattle.checker.specs.Laws.Job.{Left, line_refused, line_passed, one_more}

-- ---- one line more

-- a line is left
module _ {job : List ℕ} {c : Known} {at k : ℕ} (left : Left job c at k) (inside : at < length job) where
  ends : end_from job at < length job
  ends = line_ends job at left.ended inside

  pub nearer : length job - behind job at < length job - at
  nearer = omega (arith, inside, ends, behind_more job at ends)

  -- it was read and tested, and the next line begins at z
  module _ {line : List ℕ} (e : line ≡ line_from_of job at) {z : ℕ} (place : z ≡ behind job at) {form : Form} {fields : List ℕ} (parsed : Parsed line form fields) {number : ℕ}
      (unread : is_unread form ≡ true → number ≡ 2)
      (tests : (vs : List Value) (w : Written) → Said form fields vs w → number ≡ refusal_of (context_of c) (eqb z (length job)) (some w)) where
    abbrev others : List (List ℕ)
    others = lines (drop (behind job at) job)

    cut : lines (drop at job) ≡ line ∷ others
    cut = hands_out job at inside ∙ ap (λ (l : List ℕ). l ∷ others) (sym e)

    after_it : z ≡ end_from job at + 1
    after_it = place ∙ behind_more job at ends

    last : eqb z (length job) ≡ is_last others
    last =
        ap (λ (x : ℕ). eqb x (length job)) after_it
        ∙ last_line job (end_from job at) ends
        ∙ ap (λ (x : ℕ). is_last (lines (drop x job))) (sym (behind_more job at ends))

    tested : number ≡ refusal_of (context_of c) (eqb z (length job)) (read_line_of line)
    tested = go (is_unread form) refl
      where
        go : (b : Bool) → is_unread form ≡ b → number ≡ refusal_of (context_of c) (eqb z (length job)) (read_line_of line)
        go true u = rw (parsed.unread u) (unfold refusal_of in unread u)
        go false u = let q = parsed.read u in rw q.reads (tests q.values q.written (said_by q))

    was_read : number ≡ 0 → is_unread form ≡ false
    was_read h = go (is_unread form) refl
      where
        go : (b : Bool) → is_unread form ≡ b → b ≡ false
        go true u = absurd (omega (arith, unread u))
        go false u = refl

    number_is : number ≡ refusal_of (context_of c) (is_last others) (read_line_of line)
    number_is = tested ∙ ap (λ (b : Bool). refusal_of (context_of c) b (read_line_of line)) last

    pub line_bad : (number ≡ 0 → ⊥) → answer number (k + 1) ≡ check_job job
    unfolding check_job
    line_bad h = rw left.ended (sym (left.same ∙ ap (check_lines_of (k + 1) (context_of c)) cut ∙ line_refused (k + 1) (context_of c) line others number number_is h))

    pub line_good : number ≡ 0 → {d : Known}
        → ((vs : List Value) (w : Written) → Said form fields vs w → refusal_of (context_of c) (eqb z (length job)) (some w) ≡ 0 → context_of d ≡ next (context_of c) w)
        → Left job d z (k + 1)
    unfolding next_of
    line_good h {d} change =
        let q = parsed.read (was_read h) in
        let now = change q.values q.written (said_by q) (sym (tests q.values q.written (said_by q)) ∙ h) in
        let known : context_of d ≡ next_of (context_of c) (read_line_of line) = rw q.reads now in
        subst (λ (x : ℕ). Left job d x (k + 1)) (sym place)
        (record {
          within = omega (arith, place, after_it, ends);
          number = omega (arith, left.number, place, after_it);
          ended = left.ended;
          recorded = omega (arith, left.recorded, place, after_it, one_more c d q.written now);
          same =
              left.same
              ∙ ap (check_lines_of (k + 1) (context_of c)) cut
              ∙ line_passed (k + 1) (context_of c) line others number number_is h
              ∙ ap (λ (x : Context). check_lines_of (k + 1 + 1) x others) (sym known);
          after =
              left.after
              ∙ ap (context_after (context_of c)) cut
              ∙ after_first (context_of c) line others q.written q.reads
              ∙ ap (λ (x : Context). context_after x others) (sym now);
          count = omega (arith, left.count, ap length cut);
        })
