-- A job from instruction to instruction. Laws. Assumes nothing.
use Rattle.std.specs.Prelude.{ℕ, suc, ◌+◌, ◌≤◌, ◌<◌, ◌≡◌, refl, true, false, length, drop}
use Rattle.std.proofs.Common.{add-zero, arith, sym, ◌∙◌, true≢false, drop_of_length-le}
use Rattle.std.proofs.Math.Numerals.{add-one}
use Rattle.std.proofs.Math.Path.{ap, subst}
use mathlib.Core.List.{List, [], ◌∷◌}
use Rattle.std.proofs.Math.Option.{some}
use Rattle.std.proofs.lemmas.List.{length-map}
use Rattle.text.specs.Bytes.{pieces, lines}
use Rattle.job.specs.declared.Header.{Header}
use Rattle.job.specs.Line.{Line, WeightedPauli, Instruction}
use Rattle.job.specs.Grammar.{Kind, NoiseLine, Written, read_line_of}
use Rattle.job.specs.Checks.{element_lines_of, next as nextContext}
use Rattle.job.specs.Job.{check_job, distribution_of, noise_of, placed_at, gather, gathered, Job, job_of}
use Rattle.job.specs.Sound.{DistributionSound, NoiseSound, InstructionSound, InstructionsSound}
use Rattle.job.proofs.Laws.Lines.{header_sound}
use Rattle.job.specs.Contexts.{between, Accepted}
use Rattle.job.proofs.Laws.Accepted.{accepted_first}
use Rattle.job.proofs.Laws.Begun.{job_passes, job_begun}
use Rattle.job.proofs.Laws.Gather.{gathered_sound}
use Rattle.job.proofs.Laws.Recorded.{instruction_within}
use Rattle.job.proofs.Laws.Instructions.{LineStep, FirstInstruction, first_instruction}
use Rattle.instructions.specs.declared.LineRead.{LineRead}
use Rattle.instructions.specs.Reading.{line_at, LineAt, NextLine, noise_form}
use Rattle.instructions.specs.Ahead.{instructions_at, Ahead, Started, PlainRead, NoiseRead}
use Rattle.instructions.specs.Lines.{KnownAt}
use Rattle.instructions.specs.Laws.Meaning.{some_same, meaning, read_says, line_no_noise, noise_is_noise}

-- nothing is left at the end
pub none_left : (job : List ℕ) (k at : ℕ) → length job ≤ at → instructions_at job k at ≡ []
unfolding instructions_at pieces gathered
none_left job k at h = ap (λ (l : List ℕ). (gathered k (lines l)).instructions) (drop_of_length-le job h)

-- ---- the header

first_of : {A : Type 0} {a b : A} {p q : List A} → a ∷ p ≡ b ∷ q → (a ≡ b) × (p ≡ q)
first_of e = (cc, cc)

pub started : (job : List ℕ) (e : ℕ) → (check_job job).number ≡ 0 → LineAt job 0 e → Started job e
unfolding instructions_at
started job e passes at =
    let b = job_begun job passes in
    let parts = first_of (sym b.split ∙ at.cut) in
    let header : b.header ≡ (job_of job).header = ap (λ (j : Job). j.header) (sym b.is) in
    record {
      ahead =
          record {
            within = omega (arith, at.inside);
            number = omega (arith, at.inside);
            ended = (job_passes job passes).0;
            header = rw (← header) (header_sound b.header b.range b.edition);
            recorded = omega arith;
            accepted = rw (← header, ← parts.1) b.passes;
          };
      instructions = ap (λ (ls : List (List ℕ)). (gathered 2 ls).instructions) (sym parts.1) ∙ ap (λ (j : Job). j.instructions) (sym b.is);
    }

-- ---- an instruction

-- its first line is one of an accepted job
pub ahead_known : {job : List ℕ} {h : Header} {r k at : ℕ} → Ahead job h r k at → at < length job → KnownAt job at
ahead_known {job} {h} {r} {k} a inside =
    record { ended = a.ended; inside = inside; number = k; passes = record { context = between h r; passes = a.accepted.passes } }

-- at most 64 elements stand on lines of their own
few_elements : (n : ℕ) (kind : Kind) (es : List WeightedPauli) → length es ≡ element_lines_of kind → DistributionSound n (distribution_of kind es) → length es ≤ 64
unfolding element_lines_of distribution_of DistributionSound
few_elements n (Kind.single P) es count s = omega arith
few_elements n (Kind.depolarizing qs) es count s = omega arith
few_elements n (Kind.uniform m) es count s = omega (arith, s.few, length-map es (λ (e : WeightedPauli). e.pauli))
few_elements n (Kind.weighted m) es count s = s.few

module _ {job : List ℕ} {h : Header} {r k at : ℕ} {next : LineRead} {fields : List ℕ} (a : Ahead job h r k at) (n : NextLine job at next fields) where
  abbrev text : List ℕ
  text = line_at job at next.end

  abbrev behind : List (List ℕ)
  behind = lines (drop (next.end + 1) job)

  here : Accepted k (between h r) (text ∷ behind)
  here = subst (Accepted k (between h r)) n.place.cut a.accepted

  with_line : (i : Line) → read_line_of text ≡ some (Written.line i) → LineStep h r k text behind i → PlainRead job h r k at next fields
  unfolding instructions_at InstructionSound
  with_line i e s =
      let (vs, said) = read_says n.parsed e in
      record {
        line = i;
        values = vs;
        said = said;
        sound = s.sound;
        instructions = ap (λ (ls : List (List ℕ)). (gathered k ls).instructions) n.place.cut ∙ s.gathers ∙ ap (λ (j : ℕ). placed_at k text (Instruction.line i) ∷ (gathered j behind).instructions) (sym (add-one k));
        ahead =
            record {
              within = omega (arith, n.place.inside);
              number = omega (arith, a.number, n.place.begins);
              ended = a.ended;
              header = a.header;
              recorded = instruction_within h r (Instruction.line i) s.sound a.recorded;
              accepted = rw (add-one k) s.rest;
            };
      }

  with_noise : (m : NoiseLine) → read_line_of text ≡ some (Written.noise m) → NoiseRead job h r k at next fields
  unfolding instructions_at gathered gather InstructionsSound InstructionSound between nextContext noise_of
  with_noise m e =
      let (vs, said) = read_says n.parsed e in
      let f = accepted_first here in
      let rest : Accepted (suc k) (nextContext (between h r) (Written.noise m)) behind =
      subst (λ (w : Written). Accepted (suc k) (nextContext (between h r) w) behind) (some_same (sym f.reads ∙ e)) f.rest in
      let g = gathered (suc k) behind in
      let first : (gathered k (text ∷ behind)).instructions ≡ placed_at k text (Instruction.noise (noise_of m g.elements)) ∷ g.instructions = rw e in
      let count = (gathered_sound (suc k) _ behind rest).count in
      let sound : NoiseSound h.qubits r (noise_of m g.elements) = (subst (InstructionsSound h r) first (gathered_sound k (between h r) (text ∷ behind) here).instructions).0 in
      record {
        noise = m;
        values = vs;
        said = said;
        elements = g.elements;
        count = count;
        few = few_elements h.qubits m.kind g.elements count sound.distribution;
        sound = sound;
        instructions = ap (λ (ls : List (List ℕ)). (gathered k ls).instructions) n.place.cut ∙ first
            ∙ ap (λ (j : ℕ). placed_at k text (Instruction.noise (noise_of m g.elements)) ∷ (gathered j behind).instructions) (sym (add-one k));
        among =
            record {
              within = omega (arith, n.place.inside);
              number = omega (arith, a.number, n.place.begins);
              ended = a.ended;
              header = a.header;
              recorded = a.recorded;
              context = nextContext (between h r) (Written.noise m);
              same_header = refl;
              same_recorded = refl;
              same_weighted = refl;
              accepted = rw (add-zero (k + 1), add-one k) rest;
              left = rw (add-zero (k + 1), add-one k);
            };
      }

  pub plain_read : noise_form next.form ≡ false → PlainRead job h r k at next fields
  plain_read quiet = go (first_instruction h r k text behind here)
    where
      go : FirstInstruction h r k text behind → PlainRead job h r k at next fields
      go (FirstInstruction.plain i e s) = with_line i e s
      go (FirstInstruction.noisy m e s) =
          let (vs, said) = read_says n.parsed e in
          absurd (true≢false (sym (noise_is_noise (meaning next.form vs (Written.noise m) said.says)) ∙ quiet))

  pub noise_read : noise_form next.form ≡ true → NoiseRead job h r k at next fields
  noise_read noisy = go (first_instruction h r k text behind here)
    where
      go : FirstInstruction h r k text behind → NoiseRead job h r k at next fields
      go (FirstInstruction.plain i e s) =
          let (vs, said) = read_says n.parsed e in
          absurd (true≢false (sym noisy ∙ line_no_noise (meaning next.form vs (Written.line i) said.says)))
      go (FirstInstruction.noisy m e s) = with_noise m e
