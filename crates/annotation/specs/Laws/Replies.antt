-- The replies of the calls. Laws. Assumes nothing.
use Rattle.std.specs.Prelude.{ℕ, ◌≡◌, refl, false, ◌&&◌, List, [], ◌∷◌, ◌++◌, leb, length, Result, Ok, Err}
use Rattle.std.proofs.Common.{arith, ◌∙◌}
use Rattle.std.proofs.Math.Path.{sym, ap}
use Rattle.std.proofs.Math.Bool.{true}
use Rattle.std.proofs.Math.Option.{none}
use borrow.Author.Tests.{eq-eqb, ne_eqb}
use Rattle.text.specs.Bytes.{lines}
use Rattle.job.specs.declared.Answer.{Answer}
use Rattle.job.specs.Float.{float, is_probability}
use Rattle.job.specs.Job.{max_bytes, answer, accepted, check_job}
use Rattle.job.specs.Reply.{TextReply, refused_text, text_fits_of}
use Rattle.writer.specs.Placed.{placed}
use Rattle.writer.specs.Laws.Placing.{placed_over}
use Rattle.writer.specs.Laws.Fits.{room_for}
use Rattle.circuit.specs.Annotate.{annotated_text, first_unfit}
use Rattle.circuit.specs.Replies.{annotate_answer, annotate_reply}
use Rattle.annotation.specs.declared.around.Unfit.{Unfit}
use Rattle.annotation.specs.Lines.{unfit_line, Annotates}

-- ---- annotation of an accepted job

nothing_before : (front out : List ℕ) → length front ≡ 0 → front ++ out ≡ out
nothing_before [] out e = refl
nothing_before (a ∷ front) out e = absurd (omega arith)

fitted : (s : Result ℕ Unfit) → unfit_line s ≡ none → (bytes : ℕ) × (s ≡ Ok bytes)
unfolding unfit_line
fitted (Ok bytes) e = (bytes, refl)
fitted (Err u) e = cc

-- the text was measured over no bytes
module _ {job : List ℕ} {p : ℕ} (out : List ℕ) {front : List ℕ} where
  pub unfit_reply : {u : Unfit} → Annotates job p (Err u) [] front → length front ≡ 0
      → refused_text (answer 18 u.line) (front ++ out) ≡ annotate_answer job p out (first_unfit 1 (lines job))
  unfolding annotate_answer unfit_line
  unfit_reply a empty = rw (a.unfit, nothing_before front out empty)

  module _ {bytes : ℕ} (a : Annotates job p (Ok bytes) [] front) (empty : length front ≡ 0) where
    none_unfit : first_unfit 1 (lines job) ≡ none
    unfolding unfit_line
    none_unfit = a.unfit

    size : bytes ≡ length (annotated_text p job)
    size = omega (arith, (a.puts bytes refl).place)

    fits_same : leb bytes (length (front ++ out)) && leb bytes max_bytes ≡ text_fits_of (annotated_text p job) out
    fits_same = rw (nothing_before front out empty, size)

    pub long_reply : leb bytes (length (front ++ out)) && leb bytes max_bytes ≡ false
        → refused_text (answer 15 0) (front ++ out) ≡ annotate_answer job p out (first_unfit 1 (lines job))
    unfolding annotate_answer
    long_reply long = rw (none_unfit, nothing_before front out empty, sym fits_same ∙ long)

    pub whole_reply : {s : Result ℕ Unfit} {after : List ℕ} → leb bytes (length (front ++ out)) && leb bytes max_bytes ≡ true → Annotates job p s (front ++ out) after
        → record { answered = accepted; figure = bytes; out = after } ≡ annotate_answer job p out (first_unfit 1 (lines job))
    unfolding annotate_answer
    whole_reply {s} {after} measured b =
        let text = annotated_text p job in
        let fits : text_fits_of text out ≡ true = sym fits_same ∙ measured in
        let (m, is) = fitted s (sym b.unfit ∙ none_unfit) in
        let puts = b.puts m is in
        let written = puts.bytes ∙ ap (placed 0 text) (nothing_before front out empty) ∙ placed_over text out (room_for (length text) (length out) fits) in
        rw (none_unfit, fits, written, size)

-- ---- the calls

module _ (job : List ℕ) (p : ℕ) (out : List ℕ) where
  pub refused_reply : {a : Answer} → a ≡ check_job job → (a.number ≡ 0 → ⊥) → refused_text a out ≡ annotate_reply job p out
  unfolding annotate_reply
  refused_reply e h = rw (← e, ne_eqb _ 0 h)

  pub probability_reply : (check_job job).number ≡ 0 → is_probability (float p) ≡ false → refused_text (answer 11 0) out ≡ annotate_reply job p out
  unfolding annotate_reply
  probability_reply e h = rw (eq-eqb (check_job job).number 0 e, h)

  pub accepted_reply : {r : TextReply} → (check_job job).number ≡ 0 → is_probability (float p) ≡ true → r ≡ annotate_answer job p out (first_unfit 1 (lines job))
      → r ≡ annotate_reply job p out
  unfolding annotate_reply
  accepted_reply e h i = rw (eq-eqb (check_job job).number 0 e, h) i
