-- Laws: what an answer of 0 says of annotation. Assumes nothing.
use Rattle.std.specs.Prelude.{◌≡◌, refl, Bool, true, false, List, ℕ, ◌≤◌, eqb, leb, length, drop}
use Rattle.std.proofs.Common.{ap, ◌∙◌, arith, eqb-true, leb-true}
use Rattle.std.proofs.Math.Option.{Option, none, some}
use Rattle.std.proofs.Math.Seq.{take-append_seam}
use Rattle.std.proofs.lemmas.Bool.{eqb-false}
use Rattle.text.specs.Bytes.{lines}
use Rattle.text.proofs.Laws.Values.{both}
use Rattle.job.specs.Float.{float, is_probability}
use Rattle.job.specs.Job.{check_job}
use Rattle.job.specs.Reply.{text_fits_of, written_text, written_by}
use Rattle.circuit.specs.Annotate.{annotated_text, first_unfit}
use Rattle.circuit.specs.Replies.{annotate_answer, annotate_reply}

-- a job that annotation wrote
pub record AnnotatesTo (job : List ℕ) (p : ℕ) (out : List ℕ) : Type 0 where
  pub passes : (check_job job).number ≡ 0
  pub probability : is_probability (float p) ≡ true
  pub fits : first_unfit 1 (lines job) ≡ none
  pub few : length (annotated_text p job) ≤ 1048576
  pub text : written_by (annotate_reply job p out) ≡ annotated_text p job
  pub reply : annotate_reply job p out ≡ written_text (annotated_text p job) out

pub annotate_writes : (job : List ℕ) (p : ℕ) (out : List ℕ) → (annotate_reply job p out).answered.number ≡ 0 → AnnotatesTo job p out
unfolding annotate_reply annotate_answer
annotate_writes job p out z =
    go (eqb (check_job job).number 0) refl (is_probability (float p)) refl (first_unfit 1 (lines job)) refl (text_fits_of (annotated_text p job) out) refl
  where
    go : (a : Bool) → eqb (check_job job).number 0 ≡ a → (b : Bool) → is_probability (float p) ≡ b → (o : Option ℕ) → first_unfit 1 (lines job) ≡ o
        → (c : Bool) → text_fits_of (annotated_text p job) out ≡ c → AnnotatesTo job p out
    go false e b f o g c h = absurd (eqb-false (check_job job).number 0 e (rw e at z))
    go true e false f o g c h = let no : ◌≡◌ {A = ℕ} 11 0 = rw (e, f) at z in absurd (omega arith)
    go true e true f (some k) g c h = let no : ◌≡◌ {A = ℕ} 18 0 = rw (e, f, g) at z in absurd (omega arith)
    go true e true f none g false h = let no : ◌≡◌ {A = ℕ} 15 0 = rw (e, f, g, h) at z in absurd (omega arith)
    go true e true f none g true h =
        let reply : annotate_reply job p out ≡ written_text (annotated_text p job) out = rw (e, f, g, h) in
        record {
          passes = eqb-true (check_job job).number 0 e;
          probability = f;
          fits = g;
          few = leb-true _ _ (both (leb (length (annotated_text p job)) (length out)) (leb (length (annotated_text p job)) 1048576) h).1;
          text = ap written_by reply ∙ take-append_seam (annotated_text p job) (drop (length (annotated_text p job)) out);
          reply = reply;
        }
