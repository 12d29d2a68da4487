-- The text of a made job is accepted and has what was asked for, and what an answer of 0 says of the call. Laws. Assumes nothing.
use Rattle.std.proofs.Math.Path.{◌≡◌, refl, ap}
use Rattle.std.proofs.Common.{◌∙◌, arith}
use Rattle.std.specs.Prelude.{Bool, List, ◌∷◌, leb, length, drop}
use Rattle.std.proofs.Math.Bool.{true, false}
use Prim.Native.Nat.{ℕ, suc, ◌+◌, ◌*◌, ◌%◌, ◌≤◌}
use Rattle.std.proofs.Math.Dec.{eqb}
use Rattle.std.proofs.Math.ListN.{length-append}
use Rattle.std.proofs.Math.Seq.{take-append_seam}
use borrow.Author.Tests.{leb-true, le-leb, ne_eqb}
use Rattle.text.specs.Bytes.{LF, unlines}
use Rattle.text.proofs.Laws.Values.{both}
use Rattle.stream.specs.Stream.{step}
use Rattle.job.specs.declared.Header.{Header}
use Rattle.job.specs.Grammar.{header_with}
use Rattle.job.specs.Checks.{in_range}
use Rattle.job.specs.Job.{accepted, check_job, Job, job_of, gathered}
use Rattle.job.specs.Reply.{text_fits_of, written_text, written_by}
use Rattle.job.specs.Sound.{instructions_of, HeaderSound}
use Rattle.job.proofs.Laws.Lines.{header_sound}
use Rattle.job.proofs.Laws.Passes.{and_both}
use Rattle.job.proofs.Laws.Said.{instructions_accepted}
use Rattle.job.proofs.Laws.SaidGathered.{said_gathers}
use Rattle.job.proofs.Laws.Texts.{text_accepted, text_job}
use Rattle.made.specs.Made.{header_text, made_texts, made_header, made_text, make_reply}
use Rattle.made.proofs.Laws.Jobs.{MadeKnown, made_known, HeaderKnown, header_known}

-- ---- the text

module _ (qubits outcomes shots seed : ℕ) (range : in_range (header_with 1 qubits outcomes shots) ≡ true) where
  abbrev pub header_made : Header
  header_made = made_header qubits outcomes shots seed

  pub header_fits : HeaderSound header_made
  unfolding made_header
  header_fits =
      let edition = suc (step seed % 2) in
      header_sound header_made range (and_both (le-leb 1 edition (omega arith)) (le-leb edition 2 (omega arith)))

  module _ (lines : ℕ) where
    abbrev text_made : List ℕ
    text_made = made_text qubits outcomes shots lines seed

    abbrev pub texts_made : List (List ℕ)
    texts_made = made_texts header_made lines 0 (step seed)

    header : HeaderKnown header_made (header_text header_made)
    header = header_known header_made header_fits

    pub known : MadeKnown header_made 0 lines texts_made
    known = made_known header_made header_fits lines 0 (step seed) (omega arith)

    pub text_short : length text_made ≤ 209 + 1048 * lines
    unfolding made_text unlines
    text_short = omega (arith, header.short, known.short, length-append (header_text header_made) (LF ∷ unlines texts_made))

    pub text_passes : length text_made ≤ 1048576 → check_job text_made ≡ accepted
    unfolding made_text
    text_passes few =
        text_accepted header_made (header_text header_made) texts_made header.reads (header.free, known.free) header_fits
        (instructions_accepted header_made 0 2 texts_made known.instructions known.said known.sound) few

    job_is : job_of text_made ≡ record { header = header_made; text = header_text header_made; instructions = (gathered 2 texts_made).instructions }
    unfolding made_text
    job_is = text_job header_made (header_text header_made) texts_made header.reads (header.free, known.free)

    pub text_header : (job_of text_made).header ≡ header_made
    text_header = ap (λ (j : Job). j.header) job_is

    -- its instructions are those that its lines are known to say
    pub text_instructions : (k : MadeKnown header_made 0 lines texts_made) → instructions_of (job_of text_made).instructions ≡ k.instructions
    text_instructions k = ap (λ (j : Job). instructions_of j.instructions) job_is ∙ (said_gathers texts_made k.instructions k.said).instructions 2

-- ---- the call

module _ (qubits outcomes shots lines seed : ℕ) (out : List ℕ) where
  abbrev text : List ℕ
  text = made_text qubits outcomes shots lines seed

  -- what an answer of 0 says
  pub record MakesTo : Type 0 where
    pub range : in_range (header_with 1 qubits outcomes shots) ≡ true
    pub few : length text ≤ 1048576
    pub written : written_by (make_reply qubits outcomes shots lines seed out) ≡ text
    pub reply : make_reply qubits outcomes shots lines seed out ≡ written_text text out

  pub make_writes : (make_reply qubits outcomes shots lines seed out).answered.number ≡ 0 → MakesTo
  unfolding make_reply
  make_writes z = go (in_range (header_with 1 qubits outcomes shots)) refl (eqb seed 0) refl (text_fits_of text out) refl
    where
      go : (a : Bool) → in_range (header_with 1 qubits outcomes shots) ≡ a → (b : Bool) → eqb seed 0 ≡ b → (c : Bool) → text_fits_of text out ≡ c → MakesTo
      go false e b f c g = let no : ◌≡◌ {A = ℕ} 3 0 = rw e at z in absurd (omega arith)
      go true e true f c g = let no : ◌≡◌ {A = ℕ} 22 0 = rw (e, f) at z in absurd (omega arith)
      go true e false f false g = let no : ◌≡◌ {A = ℕ} 15 0 = rw (e, f, g) at z in absurd (omega arith)
      go true e false f true g =
          let reply : make_reply qubits outcomes shots lines seed out ≡ written_text text out = rw (e, f, g) in
          record {
            range = e;
            few = leb-true _ _ (both (leb (length text) (length out)) (leb (length text) 1048576) g).1;
            written = ap written_by reply ∙ take-append_seam text (drop (length text) out);
            reply = reply;
          }

  -- up to 1,000 lines fit
  pub make_fits : in_range (header_with 1 qubits outcomes shots) ≡ true → (seed ≡ 0 → ⊥) → lines ≤ 1000 → 1048576 ≤ length out
      → (make_reply qubits outcomes shots lines seed out).answered ≡ accepted
  unfolding make_reply
  make_fits range seeded few room =
      let short = text_short qubits outcomes shots seed range lines in
      let fits : text_fits_of text out ≡ true = and_both (le-leb (length text) (length out) (omega arith)) (le-leb (length text) 1048576 (omega arith)) in
      rw (range, ne_eqb seed 0 seeded, fits)
