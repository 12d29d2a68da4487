-- Laws: annotated lines are accepted where the lines are, and are the annotated list of their instructions. Assumes nothing.
use Rattle.std.specs.Prelude.{◌≡◌, refl, Bool, true, false, cond, leb, length}
use Rattle.std.proofs.Common.{sym, ap, ◌∙◌, leb-true}
use mathlib.Core.List.{List, [], ◌∷◌, ◌++◌, append_assoc}
use Rattle.std.proofs.Math.Option.{Option, none, some}
use Prim.Native.Nat.{ℕ, suc, ◌+◌, ◌^◌, ◌<◌, ◌≤◌}
use Rattle.std.proofs.Math.Nat.{add-zero}
use native.Mathlib.Omega.{arith}
use Rattle.text.specs.Bytes.{LF, lines, unlines}
use Rattle.text.specs.List.{is_rising_of}
use Rattle.text.specs.Written.{Free, AllFree}
use Rattle.text.proofs.Theorems.{written_one_line, lines_free}
use Rattle.text.proofs.Laws.Values.{none_some}
use Rattle.job.specs.declared.Header.{Header}
use Rattle.job.specs.Line.{SparsePauli, Line, WeightedPauli, Distribution, size_of, Instruction}
use Rattle.job.specs.Rising.{rising}
use Rattle.job.specs.Float.{float, is_probability}
use Rattle.job.specs.Grammar.{depolarizing_template, NoiseLine, Written, read_line_of}
use Rattle.job.specs.Checks.{element_lines_of, all_below, distinct}
use Rattle.job.specs.Job.{answer, distribution_of, noise_of, gathered, Job, job_of, recorded_by, check_job}
use Rattle.job.specs.Sound.{PauliSound, SmallOption, LineSound, DistributionSound, InstructionSound, instructions_of, ListSound, has_weights_of, ElementsSaid, NoiseRead, SaidAs, HeaderSound}
use Rattle.job.proofs.Laws.Lists.{rising_distinct}
use Rattle.job.proofs.Laws.Sizes.{depolarizing_small}
use Rattle.job.proofs.Laws.Rising.{rising_rises, rising_below}
use Rattle.job.specs.Contexts.{between}
use Rattle.job.proofs.Laws.Lines.{header_sound}
use Rattle.job.proofs.Laws.Begun.{Begun, job_begun}
use Rattle.job.proofs.Laws.Gather.{gathered_sound}
use Rattle.job.proofs.Laws.Said.{instructions_accepted, placed_list}
use Rattle.job.proofs.Laws.SaidGathered.{said_gathers, accepted_said}
use Rattle.job.proofs.Laws.Texts.{small_below, depolarizing_line, noise_one_line, depolarizing_says, text_accepted, text_job}
use Rattle.circuit.specs.Annotate.{located_qubits, noise_qubits_of, noise_before_of, noise_text_of, noise_lines_of, around, annotated, annotated_text, located_on, noise_on, first_unfit}
use Rattle.circuit.proofs.Laws.First.{below_append, first_distinct, first_below}
use Rattle.circuit.specs.Annotated.{depolarizing_noise, noise_over, with_noise_of, annotated_list}

-- ---- the qubits of a line's noise

support_below : (n : ℕ) (P : SparsePauli) → PauliSound n P → all_below n (rising (P.x ++ P.z)) ≡ true
support_below n P s = rising_below n (P.x ++ P.z) ∙ below_append n P.x P.z s.x.below s.z.below

-- they are qubits of the job
located_below : (h : Header) (r : ℕ) (l : Line) → LineSound h r l → all_below h.qubits (located_qubits l) ≡ true
unfolding located_qubits LineSound all_below
located_below h r (Line.unitary g qs) s = s.operands.below
located_below h r (Line.clifford qs t) s = s.operands.below
located_below h r (Line.pauli P) s = support_below _ P s
located_below h r (Line.exponential P) s = support_below _ P s
located_below h r (Line.controlled C T) s = below_append _ (rising (C.x ++ C.z)) (rising (T.x ++ T.z)) (support_below _ C s.control) (support_below _ T s.target)
located_below h r (Line.permute p qs) s = s.operands.below
located_below h r (Line.measure P id) s = support_below _ P s.observable
located_below h r (Line.allocate id angle) s = refl
located_below h r (Line.conditional P ids par) s = refl
located_below h r (Line.reset qs) s = refl
located_below h r (Line.inject shot P) s = refl
located_below h r (Line.flip shot id) s = refl
located_below h r (Line.barrier qs) s = refl

qubits_below : (h : Header) (r : ℕ) (l : Line) → LineSound h r l → all_below h.qubits (noise_qubits_of l) ≡ true
unfolding noise_qubits_of all_below
qubits_below h r l s = first_below h.qubits [] (located_qubits l) refl (located_below h r l s)

-- none stands twice
pub qubits_apart : (l : Line) → distinct (noise_qubits_of l) ≡ true
unfolding noise_qubits_of distinct
qubits_apart l = first_distinct [] (located_qubits l) refl

-- as it is for a line other than a controlled Pauli
pub located_apart : (h : Header) (r : ℕ) (l : Line) → LineSound h r l → ((C T : SparsePauli) → l ≡ Line.controlled C T → ⊥) → distinct (located_qubits l) ≡ true
unfolding located_qubits LineSound distinct
located_apart h r (Line.unitary g qs) s other = s.operands.apart
located_apart h r (Line.clifford qs t) s other = s.operands.apart
located_apart h r (Line.pauli P) s other = rising_distinct _ (rising_rises (P.x ++ P.z))
located_apart h r (Line.exponential P) s other = rising_distinct _ (rising_rises (P.x ++ P.z))
located_apart h r (Line.controlled C T) s other = absurd (other C T refl)
located_apart h r (Line.permute p qs) s other = s.operands.apart
located_apart h r (Line.measure P id) s other = rising_distinct _ (rising_rises (P.x ++ P.z))
located_apart h r (Line.allocate id angle) s other = refl
located_apart h r (Line.conditional P ids par) s other = refl
located_apart h r (Line.reset qs) s other = refl
located_apart h r (Line.inject shot P) s other = refl
located_apart h r (Line.flip shot id) s other = refl
located_apart h r (Line.barrier qs) s other = refl

-- noise over these qubits can be written: none, or at most 31, each once
record Fit (n : ℕ) (qs : List ℕ) : Type 0 where
  apart : distinct qs ≡ true
  few : length qs ≤ 31
  below : all_below n qs ≡ true

-- ---- 18

-- the qubits of a line's noise pass it, and so do those of the lines behind it
unfit_parts : (j : ℕ) (l : List ℕ) (ls : List (List ℕ)) → first_unfit j (l ∷ ls) ≡ none
    → (leb (length (noise_on (read_line_of l))) 31 ≡ true) × (first_unfit (suc j) ls ≡ none)
unfolding first_unfit
unfit_parts j l ls e = go (leb (length (noise_on (read_line_of l))) 31) e
  where
    go : (b : Bool) → cond b (first_unfit (suc j) ls) (some j) ≡ none → (b ≡ true) × (first_unfit (suc j) ls ≡ none)
    go true e = (refl, e)
    go false e = absurd (none_some (sym e))

line_fit : (h : Header) (r : ℕ) (o : Option Written) (i : Line) → o ≡ some (Written.line i) → LineSound h r i
    → leb (length (noise_on o)) 31 ≡ true → Fit h.qubits (noise_qubits_of i)
unfolding noise_on located_on noise_qubits_of
line_fit h r o i e s t = record { apart = qubits_apart i; few = leb-true _ _ (rw e at t); below = qubits_below h r i s }

-- the lines behind some others
unfit_behind : (j : ℕ) (us ts : List (List ℕ)) → first_unfit j (us ++ ts) ≡ none → (k : ℕ) × (first_unfit k ts ≡ none)
unfit_behind j [] ts e = (j, e)
unfit_behind j (u ∷ us) ts e = unfit_behind (suc j) us ts (unfit_parts j u (us ++ ts) e).1

-- ---- annotated instructions

-- element lines are copied
elements_copied : (p : ℕ) (weights : Bool) (us ts : List (List ℕ)) (es : List WeightedPauli) → ElementsSaid weights us es → annotated p (us ++ ts) ≡ us ++ annotated p ts
unfolding ElementsSaid annotated around
elements_copied p weights [] ts [] said = refl
elements_copied p weights [] ts (e ∷ es) said = absurd said
elements_copied p weights (u ∷ us) ts [] said = absurd said
elements_copied p weights (u ∷ us) ts (e ∷ es) said = rw said.0 (ap (λ (l : List (List ℕ)). u ∷ l) (elements_copied p weights us ts es said.1))

module _ (p : ℕ) (small : p < 2 ^ 64) (probability : is_probability (float p) ≡ true) (h : Header) (range : HeaderSound h) where
  -- texts that say sound instructions
  record Annotates (r : ℕ) (ts : List (List ℕ)) (is : List Instruction) : Type 0 where
    said : SaidAs ts is
    sound : ListSound h r is

  -- noise in front of others
  noise_before : (r : ℕ) (qs : List ℕ) (ts : List (List ℕ)) (is : List Instruction) → Fit h.qubits qs → Annotates r ts is
      → Annotates r (noise_lines_of p qs ++ ts) (noise_over p qs ++ is)
  unfolding noise_lines_of noise_over noise_of distribution_of noise_text_of
  noise_before r [] ts is f a = a
  noise_before r (q ∷ qs) ts is f a =
      record {
        said =
            SaidAs.noise (noise_text_of p (q ∷ qs)) [] ts (depolarizing_line p (q ∷ qs) size) [] is
            (record { line = says; count = unfold element_lines_of in refl; elements = unfold ElementsSaid in tt }) a.said;
        sound = unfold ListSound recorded_by in (noise_sound, rw add-zero a.sound);
      }
    where
      size : ℕ
      size = size_of (Distribution.depolarizing (q ∷ qs))

      says : read_line_of (noise_text_of p (q ∷ qs)) ≡ some (Written.noise (depolarizing_line p (q ∷ qs) size))
      says =
          depolarizing_says p (q ∷ qs) size small
          (record { filled = omega arith; small = small_below h.qubits (q ∷ qs) range.few_qubits f.below }) (omega (arith, depolarizing_small (q ∷ qs) f.few))

      noise_sound : InstructionSound h r (Instruction.noise (depolarizing_noise p (q ∷ qs)))
      noise_sound =
          unfold InstructionSound DistributionSound SmallOption is_rising_of all_below in
          record {
            probability = probability;
            small = small;
            correlation = tt;
            outcomes = record { rising = refl; below = refl; few = omega arith };
            parity = λ _. refl;
            distribution = record { filled = omega arith; few = f.few; apart = f.apart; below = f.below };
            size = refl;
          }

  -- a line in front of others
  line_before : (r : ℕ) (t : List ℕ) (l : Line) (ts : List (List ℕ)) (is : List Instruction) → read_line_of t ≡ some (Written.line l) → LineSound h r l
      → Annotates (r + recorded_by (Instruction.line l)) ts is → Annotates r (t ∷ ts) (Instruction.line l ∷ is)
  unfolding ListSound InstructionSound
  line_before r t l ts is reads s a = record { said = SaidAs.line t ts l is reads a.said; sound = (s, a.sound) }

  -- a line with its noise
  line_around : (r : ℕ) (t : List ℕ) (l : Line) (ts : List (List ℕ)) (is : List Instruction) → read_line_of t ≡ some (Written.line l) → LineSound h r l
      → Fit h.qubits (noise_qubits_of l) → Annotates (r + recorded_by (Instruction.line l)) ts is
      → Annotates r (around p t (some (Written.line l)) ++ ts) (with_noise_of p (Instruction.line l) ++ is)
  unfolding around with_noise_of
  line_around r t l ts is reads s f a = go (noise_before_of l)
    where
      noise : List (List ℕ)
      noise = noise_lines_of p (noise_qubits_of l)

      over : List Instruction
      over = noise_over p (noise_qubits_of l)

      go : (b : Bool) → Annotates r (cond b (noise ++ t ∷ []) (t ∷ noise) ++ ts) (cond b (over ++ Instruction.line l ∷ []) (Instruction.line l ∷ over) ++ is)
      go true =
          rw (append_assoc noise (t ∷ []) ts, append_assoc over (Instruction.line l ∷ []) is)
          (noise_before r (noise_qubits_of l) (t ∷ ts) (Instruction.line l ∷ is) f (line_before r t l ts is reads s a))
      go false = line_before r t l (noise ++ ts) (over ++ is) reads s (noise_before (r + recorded_by (Instruction.line l)) (noise_qubits_of l) ts is f a)

  -- noise that was there, with its elements
  noise_around : (r : ℕ) (t : List ℕ) (us ts : List (List ℕ)) (n : NoiseLine) (es : List WeightedPauli) (is : List Instruction) → NoiseRead t us n es
      → InstructionSound h r (Instruction.noise (noise_of n es)) → Annotates (r + recorded_by (Instruction.noise (noise_of n es))) (annotated p ts) is
      → Annotates r (annotated p (t ∷ us ++ ts)) (with_noise_of p (Instruction.noise (noise_of n es)) ++ is)
  unfolding annotated around with_noise_of ListSound
  noise_around r t us ts n es is reads s a =
      rw (reads.line, elements_copied p (has_weights_of n.kind) us ts es reads.elements)
      record { said = SaidAs.noise t us (annotated p ts) n es is reads a.said; sound = (s, a.sound) }

  annotates : (r j : ℕ) (ls : List (List ℕ)) (is : List Instruction) → SaidAs ls is → ListSound h r is → first_unfit j ls ≡ none
      → Annotates r (annotated p ls) (annotated_list p is)
  unfolding annotated annotated_list ListSound InstructionSound
  annotates r j _ _ SaidAs.nothing s e = record { said = SaidAs.nothing; sound = tt }
  annotates r j _ _ (SaidAs.line t ts l is reads said) s e =
      let (here, behind) = unfit_parts j t ts e in
      rw reads
      (line_around r t l (annotated p ts) (annotated_list p is) reads s.0 (line_fit h r (read_line_of t) l reads s.0 here)
      (annotates (r + recorded_by (Instruction.line l)) (suc j) ts is said s.1 behind))
  annotates r j _ _ (SaidAs.noise t us ts n es is reads said) s e =
      let (k, behind) = unfit_behind (suc j) us ts (unfit_parts j t (us ++ ts) e).1 in
      noise_around r t us ts n es (annotated_list p is) reads s.0
      (annotates (r + recorded_by (Instruction.noise (noise_of n es))) k ts is said s.1 behind)

-- ---- texts

-- each annotated line is one line
noise_free : (p : ℕ) (qs : List ℕ) (ts : List (List ℕ)) → AllFree LF ts → AllFree LF (noise_lines_of p qs ++ ts)
unfolding noise_lines_of noise_text_of
noise_free p [] ts f = f
noise_free p (q ∷ qs) ts f = (written_one_line depolarizing_template noise_one_line _, f)

around_free : (p : ℕ) (l : List ℕ) (o : Option Written) (ts : List (List ℕ)) → Free LF l → AllFree LF ts → AllFree LF (around p l o ++ ts)
unfolding around
around_free p l none ts a f = (a, f)
around_free p l (some (Written.header h)) ts a f = (a, f)
around_free p l (some (Written.noise n)) ts a f = (a, f)
around_free p l (some (Written.element w P)) ts a f = (a, f)
around_free p l (some (Written.line i)) ts a f = go (noise_before_of i)
  where
    noise : List (List ℕ)
    noise = noise_lines_of p (noise_qubits_of i)

    go : (b : Bool) → AllFree LF (cond b (noise ++ l ∷ []) (l ∷ noise) ++ ts)
    go true = rw (append_assoc noise (l ∷ []) ts) (noise_free p (noise_qubits_of i) (l ∷ ts) (a, f))
    go false = (a, noise_free p (noise_qubits_of i) ts f)

pub annotated_free : (p : ℕ) (ls : List (List ℕ)) → AllFree LF ls → AllFree LF (annotated p ls)
unfolding annotated
annotated_free p [] f = tt
annotated_free p (l ∷ ls) f = around_free p l (read_line_of l) (annotated p ls) f.0 (annotated_free p ls f.1)

-- ---- a job

-- what is known of an accepted job's annotated text
pub record JobAnnotated (p : ℕ) (job : List ℕ) : Type 0 where
  pub accepted : length (annotated_text p job) ≤ 1048576 → check_job (annotated_text p job) ≡ answer 0 0
  pub header : (job_of (annotated_text p job)).header ≡ (job_of job).header
  pub text : (job_of (annotated_text p job)).text ≡ (job_of job).text
  pub instructions : instructions_of (job_of (annotated_text p job)).instructions ≡ annotated_list p (instructions_of (job_of job).instructions)

module _ (p : ℕ) (small : p < 2 ^ 64) (probability : is_probability (float p) ≡ true) (job : List ℕ) (passes : (check_job job).number ≡ 0)
    (fit : first_unfit 1 (lines job) ≡ none)
  where
    b : Begun job
    b = job_begun job passes

    text_is : annotated_text p job ≡ unlines (b.text ∷ annotated p b.rest)
    unfolding annotated_text annotated around
    text_is = rw (b.split, b.reads)

    range : HeaderSound b.header
    range = header_sound b.header b.range b.edition

    free : AllFree LF (b.text ∷ annotated p b.rest)
    free = let f : AllFree LF (b.text ∷ b.rest) = rw b.split at (lines_free job) in (f.0, annotated_free p b.rest f.1)

    known : Annotates p small probability b.header range 0 (annotated p b.rest) (annotated_list p (instructions_of (gathered 2 b.rest).instructions))
    unfolding between
    known =
        annotates p small probability b.header range 0 2 b.rest _ (accepted_said b.header 0 2 b.rest b.passes)
        (placed_list b.header 0 _ (gathered_sound 2 (between b.header 0) b.rest b.passes).instructions)
        (unfit_parts 1 b.text b.rest (rw b.split at fit)).1

    job_is : job_of (annotated_text p job) ≡ record { header = b.header; text = b.text; instructions = (gathered 2 (annotated p b.rest)).instructions }
    job_is = ap job_of text_is ∙ text_job b.header b.text (annotated p b.rest) b.reads free

    pub job_annotated : JobAnnotated p job
    job_annotated =
        record {
          accepted = λ few.
              ap check_job text_is ∙ text_accepted b.header b.text (annotated p b.rest) b.reads free range (instructions_accepted b.header 0 2 _ _ known.said known.sound) (rw text_is at few);
          header = ap (λ (j : Job). j.header) job_is ∙ sym (ap (λ (j : Job). j.header) b.is);
          text = ap (λ (j : Job). j.text) job_is ∙ sym (ap (λ (j : Job). j.text) b.is);
          instructions =
              ap (λ (j : Job). instructions_of j.instructions) job_is
              ∙ (said_gathers _ _ known.said).instructions 2
              ∙ sym (ap (λ (j : Job). annotated_list p (instructions_of j.instructions)) b.is);
        }
